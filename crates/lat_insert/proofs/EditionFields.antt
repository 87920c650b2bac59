-- The prime fields of a lattice of an edition, and the edition's limits.
use Rattle.std.proofs.Common.{◌≡◌, ℕ, ◌<◌, ◌≤◌, List, length, slice_index_or, refl, sym, ap, ◌∙◌, subst, arith}
use Rattle.std.specs.Prelude.{slice_index}
use Rattle.alg_model.specs.Maps.{Field}
use Rattle.alg_model.specs.Lattices.{Lattice, no_row, prime_row, IsCompatible}
use Rattle.alg_compatible.proofs.Transfer.{prime_row_at}
use Rattle.lat_core.specs.declared.TheConstants.{MAX_FIELDS}
use Rattle.lat_core.specs.declared.editions.Edition.{Edition}
use Rattle.lat_core.specs.declared.editions.Edition.TheVariants.{One, Two}
use Rattle.lat_core.specs.Editions.{edition_of}
use Rattle.ff_poly.specs.declared.TheConstants.{MAX_DEGREE}

-- there is room for as many fields as a lattice may have
pub room_of : (e : Edition) → (edition_of e).room ≡ MAX_FIELDS
room_of One = refl
room_of Two = refl

-- the greatest degree is within the limit of the arithmetic
pub top_fits : (e : Edition) → (edition_of e).top ≤ MAX_DEGREE
top_fits One = omega arith
top_fits Two = omega arith

-- the field at a place of the characteristics is the prime field of that one
pub prime_field_of : {L : Lattice} → IsCompatible L → (e : Edition) (q : ℕ) (name : List ℕ) (K : Field)
    → edition_of e ≡ L.edition → q < length (edition_of e).primes
    → record { name = name; field = K } ≡ slice_index_or L.rows q no_row
    → K ≡ (prime_row (slice_index (edition_of e).primes q)).field
prime_field_of {L} C e q name K same below at =
    ap (λ r. r.field) at
    ∙ ap (λ r. r.field) (prime_row_at L.edition.primes L.rows C.rows.prime_fields q (subst (λ d. q < length d.primes) same below))
    ∙ ap (λ d. (prime_row (slice_index d.primes q)).field) (sym same)
