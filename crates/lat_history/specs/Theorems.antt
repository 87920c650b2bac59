-- What holds of histories and of the answers in them, as statements.
use Rattle.std.specs.Prelude.{ℕ, List, ◌++◌}
use Rattle.alg_model.specs.Lattices as lattices
use Rattle.alg_model.specs.Lattices.{Lattice, IsEdition}
use Rattle.lat_core.specs.declared.tagged.Tagged.{Tagged}
use Rattle.lat_core.specs.declared.replies.Entry.{Entry}
use Rattle.lat_core.specs.declared.questions.Answer.TheVariants.{Lifted}
use Rattle.lat_core.specs.Answers.{LiftsTo}
use Rattle.lat_core.specs.Histories.{IsAfter}

-- A value that a lift gives after the entries that were seen is what it gives after every history
-- that begins with them.
abbrev pub SeenLiftStays : Type 0
SeenLiftStays = (edition : lattices.Edition) (seen later : List Entry) (L M : Lattice)
    (t s : Tagged) (j : ℕ) → IsEdition edition → IsAfter edition seen L
    → IsAfter edition (seen ++ later) M → LiftsTo L t j (Lifted s) → LiftsTo M t j (Lifted s)
