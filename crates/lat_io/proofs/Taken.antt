-- Lemmas on the bytes that are taken from a source.
use Rattle.std.proofs.Common.{◌≡◌, ℕ, ◌≤◌, ◌+◌, List, ◌++◌, None, Some, Option, sym, ap, ◌∙◌, subst, length, length-append, length-take-le, take, drop, arith}
use Rattle.std.specs.Prelude.{Result, Ok, Err, IfErr, IsErrAnd}
use Rattle.std.proofs.Math.Seq.{drop-append_seam}
use Rattle.std.specs.Io.KnownBytes.{Consumes}
use Rattle.std.proofs.KnownBytes.{Consumes-trans}
use Rattle.lat_io.specs.declared.faults.ReadFault.{ReadFault}
use Rattle.lat_io.specs.declared.faults.ReadFault.TheVariants.{NoMemory}
use Rattle.lat_io.specs.Source.{TakesFront, TakesSome, TookBefore}

-- what was consumed was taken from the front
pub TakesFront-consumed : (a b : Option (List ℕ)) (bytes : List ℕ) → Consumes a b bytes
    → TakesFront a b (length bytes)
TakesFront-consumed None b bytes h = tt
TakesFront-consumed (Some xs) None bytes h = absurd h
TakesFront-consumed (Some xs) (Some ys) bytes h =
    (omega (arith, ap length h, length-append bytes ys), ap (λ l. Some l) (sym (ap (drop (length bytes)) h ∙ drop-append_seam bytes ys)))

-- after what was consumed before, the first `count` bytes of a buffer were consumed
pub TakesFront-more : (a b c : Option (List ℕ)) (bytes buffer : List ℕ) (count : ℕ)
    → Consumes a b bytes → Consumes b c (take count buffer) → count ≤ length buffer
    → TakesFront a c (length bytes + count)
TakesFront-more a b c bytes buffer count h k fits =
    let joined : length (bytes ++ take count buffer) ≡ length bytes + count = length-append bytes (take count buffer) ∙ ap (λ n. length bytes + n) (length-take-le count buffer fits) in
    subst (TakesFront a c) joined (TakesFront-consumed a c (bytes ++ take count buffer) (Consumes-trans a b c bytes (take count buffer) h k))

-- what was taken before there was no memory
pub no_memory_took : {A : Type 0} (r : Result A ReadFault) (limit : ℕ) (old new : Option (List ℕ))
    → IsErrAnd r (λ fault. fault ≡ NoMemory) → TakesSome old new limit
    → IfErr r (λ fault. TookBefore fault limit old new)
no_memory_took (Ok a) limit old new none taken = tt
no_memory_took (Err fault) limit old new none taken = subst (λ fault. TookBefore fault limit old new) (sym none) taken
