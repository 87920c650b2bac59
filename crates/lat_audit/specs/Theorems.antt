-- The statements of the laws: what holds of dumps and verdicts, whatever the program does.
use Rattle.std.specs.Prelude.{◌≡◌, ◌≢◌, ℕ, List}
use Rattle.alg_model.specs.Lattices.{Lattice}
use Rattle.lat_audit.specs.Dumps.{dump_text}
use Rattle.lat_audit.specs.Verdicts.{IsDumped, Judges}
use Rattle.lat_audit.specs.declared.verdicts.AuditVerdict.{AuditVerdict}
use Rattle.lat_audit.specs.declared.verdicts.AuditVerdict.TheVariants.{Good, NoMemory}

-- A text has a verdict, but for memory.
abbrev pub TextHasVerdict : Type 0
TextHasVerdict = (text : List ℕ) → (verdict : AuditVerdict) × (verdict ≢ NoMemory)
    × Judges text verdict

-- And no other one.
abbrev pub TextHasOneVerdict : Type 0
TextHasOneVerdict = (text : List ℕ) (verdict other : AuditVerdict) → verdict ≢ NoMemory
    → other ≢ NoMemory → Judges text verdict → Judges text other → verdict ≡ other

-- The text of a lattice is that of no other one, and a lattice has no other text.
abbrev pub LatticeHasOneSpelling : Type 0
LatticeHasOneSpelling = (L M : Lattice) (text other : List ℕ) → Judges text (Good L)
    → Judges other (Good M) → ((text ≡ other → L ≡ M) × (L ≡ M → text ≡ other))

-- The dump of a lattice is judged good, but for memory, and hands out the lattice.
abbrev pub DumpIsGood : Type 0
DumpIsGood = (L : Lattice) (verdict : AuditVerdict) → IsDumped L → verdict ≢ NoMemory
    → Judges (dump_text L) verdict → verdict ≡ Good L
