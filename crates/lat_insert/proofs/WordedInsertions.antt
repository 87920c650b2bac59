-- An insertion adds what the rule of filling says, as it is told.
use Rattle.std.proofs.Common.{◌≡◌, ◌⊎◌, ℕ, ◌+◌, List, length, ap, inl, inr, ⊎_elim, arith, length-append}
use Rattle.alg_model.specs.Lattices.{Lattice, Compatible, IsCompatible}
use Rattle.alg_model.specs.Candidates.{embedding_by}
use Rattle.alg_model.specs.Filling.{IsStoredAfter}
use Rattle.alg_compatible.proofs.Transfer.{lattice_decided}
use Rattle.alg_compatible.proofs.Filling.{Inserted, filling_compatible, filling_grows}
use Rattle.alg_compatible.proofs.Laws.{missing_one_law}
use Rattle.alg_choices.specs.Linking.{AreNewPairs}
use Rattle.alg_choices.proofs.Linking.{inserted}
use Rattle.alg_choices.proofs.Laws.{pairs_law}
use Rattle.lat_insert.specs.Wording.{IsStoredPair, FillingIsAsWorded, InsertionIsAsWorded, RuledPairsAreStored, StoredMapsAreAsWorded, AdditionsAreCounted}
use Rattle.lat_insert.proofs.ForcedAdditions.{FillsByChoice, insertion_fills}
use Rattle.lat_insert.proofs.PairLists.{listed_pairs}
use Rattle.lat_insert.proofs.Wording.{stored_as_worded, filled_as_worded, pairs_after}

pub filling_worded : FillingIsAsWorded
filling_worded L M E F sending v C A c = (
  λ D. (filled_as_worded (inserted C A c D.rows)).0 D,
  λ D. (filled_as_worded (inserted C A c D.rows)).1 D,
)

-- an insertion by the choice, in the theory
step_inserted : {L : Lattice} {E F : ℕ} {v : List ℕ} {M : Lattice} {made linked : ℕ}
    → IsCompatible L → FillsByChoice L E F v M made linked
    → Inserted L E F (embedding_by L E F v) M.rows
step_inserted C B = inserted C B.fields B.choice.candidate B.fills.filled.rows

pub insertion_worded : InsertionIsAsWorded
insertion_worded L M E F v C I =
    let B = insertion_fills C I in
    (filled_as_worded (step_inserted C B)).0 B.fills.filled

pub ruled_pairs_stored : RuledPairsAreStored
ruled_pairs_stored L M E F v C I i k =
    let B = insertion_fills C I in
    pairs_after (step_inserted C B) B.fills.filled i k

pub stored_maps_worded : StoredMapsAreAsWorded
stored_maps_worded L M E F v C I i k m h =
    let B = insertion_fills C I in
    (stored_as_worded (step_inserted C B)).0 (IsStoredAfter.before h)

-- ---- the pairs that have a map and had none
abbrev IsNew : Lattice → Lattice → ℕ → ℕ → Type 0
IsNew L M i k = IsStoredPair M i k × ¬ IsStoredPair L i k

new_or_not : (L M : Lattice) (i k : ℕ) → IsNew L M i k ⊎ ¬ IsNew L M i k
new_or_not L M i k = ⊎_elim
    (λ s. ⊎_elim (λ h. inr (λ (a, b). b h)) (λ n. inl (s, n)) (lattice_decided L i k))
    (λ n. inr (λ (a, b). n a))
    (lattice_decided M i k)

-- there is a list of them
new_pairs_listed : (L M : Lattice) → Compatible M → (ps : List (ℕ × ℕ)) × AreNewPairs L M ps
new_pairs_listed L M C =
    let l = listed_pairs (IsNew L M) (new_or_not L M) (length M.rows) (λ i k n. C.within n.0.1) in
    (l.list, record { apart = l.apart; exactly = l.exactly })

counted : {L M : Lattice} {E F : ℕ} {v : List ℕ} {made linked : ℕ} → IsCompatible L
    → FillsByChoice L E F v M made linked
    → (length M.rows ≡ length L.rows + made)
    × ((ps : List (ℕ × ℕ)) × AreNewPairs L M ps × (length ps ≡ linked))
counted {L} {M} {E} {F} C B =
    let H = step_inserted C B in
    let D = B.fills.filled in
    let (degrees, missing, fields) = B.fills.made_count in
    let same = ap length (missing_one_law L E F D.rows.degrees degrees D.rows.missing missing) in
    let (ps, new) = new_pairs_listed L M (filling_compatible H D) in
    let more = pairs_law L M ps (filling_grows H D) new in (
      omega (arith, D.rows.count, ap length D.rows.appended, length-append L.rows D.rows.made, same, fields),
      (ps, new, omega (arith, more, B.fills.linked_count)),
    )

pub additions_counted : AdditionsAreCounted
additions_counted L M E F v C I = counted C (insertion_fills C I)
