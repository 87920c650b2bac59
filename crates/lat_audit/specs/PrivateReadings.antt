-- Parts of reading. No public clause cites this module.
--     Lacks byte text            the byte isn't in the text
--     IsCut byte text a b        a stands before the first such byte, and b behind it
--     ended line                 the line with its line feed
--     IsFirstLine text line rest     a line with its line feed, and then the lines of the rest
--     AreFieldWords line a ..    the words of a field's line behind its first one
--     AreMapWords line a ..      the words of a map's line behind its first one
--     IsFieldPoly p f            a monic polynomial of degree 1 to the greatest of the edition
--     IsRising images            the pairs of the images rise
--     Continues place n text next m rest     what the rest means, the text means
--     Stops place n text fault     the text has its first bad line, or memory was wanting
use Rattle.std.specs.Prelude.{◌≡◌, ◌≢◌, ℕ, ◌+◌, ◌-◌, ◌<◌, ◌≤◌, List, [], ◌∷◌, ◌++◌, length, All, AllPairs, Contains, codes, slice_index, Result, Err}
use Rattle.std.specs.List.{join_with_byte}
use Rattle.std.specs.declared.cmp.Ordering.TheVariants.{Less}
use Rattle.alg_model.specs.Coefficients.{residues}
use Rattle.alg_model.specs.Factors.{IsMonic}
use Rattle.alg_model.specs.Values.{degree}
use Rattle.alg_model.specs.Lattices.{first_edition, pair_cmp}
use Rattle.lat_audit.specs.Readings.{ended_lines, Image, Content, Place, Reading}
use Rattle.lat_audit.specs.declared.faults.Fault.{Fault}
use Rattle.lat_audit.specs.declared.faults.Fault.TheVariants as fault

abbrev pub Lacks : ℕ → List ℕ → Type 0
Lacks byte text = All (λ b. b ≢ byte) text

abbrev pub IsCut : ℕ → List ℕ → List ℕ → List ℕ → Type 0
IsCut byte text first rest = (text ≡ first ++ byte ∷ rest) × Lacks byte first

abbrev pub ended : List ℕ → List ℕ
ended line = line ++ 10 ∷ []

abbrev pub IsFirstLine : List ℕ → List ℕ → List ℕ → Type 0
IsFirstLine text line rest = ended_lines text ≡ ended line ∷ ended_lines rest

-- ---- words
pub record AreFieldWords (line number name characteristic polynomial : List ℕ) : Type 0 where
  pub joined : line ≡ join_with_byte 32
      (codes "field" ∷ number ∷ name ∷ characteristic ∷ polynomial ∷ [])
  pub first : Lacks 32 number
  pub second : Lacks 32 name
  pub third : Lacks 32 characteristic

pub record AreMapWords (line from into image : List ℕ) : Type 0 where
  pub joined : line ≡ join_with_byte 32 (codes "map" ∷ from ∷ into ∷ image ∷ [])
  pub first : Lacks 32 from
  pub second : Lacks 32 into

-- ---- what words are of
pub record IsFieldPoly (p : ℕ) (f : List ℕ) : Type 0 where
  pub characteristic : Contains first_edition.primes p
  pub degree : (1 ≤ degree f) × (degree f ≤ first_edition.top)
  pub coefficients : All (λ a. a < p) f
  pub monic : IsMonic (residues p) f

-- the same of numbers, for this p
pub record AreCoefficients (p : ℕ) (f : List ℕ) : Type 0 where
  pub degree : (2 ≤ length f) × (length f ≤ first_edition.top + 1)
  pub coefficients : All (λ a. a < p) f
  pub last : slice_index f (length f - 1) ≡ 1

-- a pair before another one
abbrev pub IsBefore : ℕ × ℕ → ℕ × ℕ → Type 0
IsBefore a b = pair_cmp a b ≡ Less

abbrev pub IsRising : List Image → Type 0
IsRising images = AllPairs (λ a b. IsBefore a.0 b.0) images

-- ---- lines in their order
abbrev pub Continues : Place → ℕ → List ℕ → Place → ℕ → List ℕ → Type 0
Continues place n text next m rest = (read : Result Content ℕ)
    → Reading next m (ended_lines rest) read → Reading place n (ended_lines text) read

abbrev pub Stops : Place → ℕ → List ℕ → Fault → Type 0
Stops place n text (fault.Text line) = Reading place n (ended_lines text) (Err line)
Stops place n text (fault.Field i) = ⊥
Stops place n text (fault.Map i j) = ⊥
Stops place n text (fault.Rule r i j k) = ⊥
Stops place n text fault.NoMemory = Unit {0}
