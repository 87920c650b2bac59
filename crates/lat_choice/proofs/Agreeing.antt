-- A polynomial at whose roots a map agrees with more and more common subfields.
use Rattle.std.proofs.Common.{◌≡◌, ◌↔◌, ℕ, ◌+◌, ◌<◌, List, length, sym, subst}
use Rattle.std.specs.Prelude.{None, Some}
use Rattle.alg_model.specs.Polynomials.{evaluate}
use Rattle.alg_model.specs.Factors.{IsPolynomial, IsGreatestCommonDivisor}
use Rattle.alg_model.specs.Maps.{Field, field_values, constants}
use Rattle.alg_model.specs.Roots.{IsRoot}
use Rattle.alg_model.specs.Lattices.{Lattice, Row, field_at, Stored, IsCompatible}
use Rattle.alg_compatible.specs.Theorems.{AreFields}
use Rattle.alg_compatible.proofs.Transfer.{stored_one}
use Rattle.alg_choices.specs.Theorems.{AreAlike}
use Rattle.alg_choices.specs.Fitting.{Narrows}
use Rattle.alg_choices.specs.Restrictions.{IsRestriction, IsPrescription, prescription}
use Rattle.alg_choices.proofs.Restrictions.{common_roots, prescription_is}
use Rattle.alg_choices.proofs.Fitting.{finite_at}
use Rattle.alg_choices.proofs.Searching.{narrowed, selects_common, selects_sent}
use Rattle.ff_embed.specs.SmallEmbeddings.{FieldMap}
use Rattle.ff_minpoly.specs.Extensions.{Extends}
use Rattle.lat_core.specs.SharedRows.{IsBetween}

-- the polynomial of two embeddings from one field
restriction_of : (sub whole : FieldMap) (g : List (List ℕ))
    → ((v : List ℕ) → (field_values whole.target).Valid v
    → (evaluate (field_values whole.target).ops g v ≡ (field_values whole.target).ops.zero)
    ↔ Extends sub whole v)
    → IsRestriction sub.target whole.target sub.images whole.images g
restriction_of sub whole g roots = record {
  exactly = λ v valid. (
    λ z. let x = (roots v valid).0 z in
        record { embedding = x.embedding; generator = x.generator; followed = x.agrees },
    λ x. (roots v valid).1
        (record { embedding = x.embedding; generator = x.generator; agrees = x.followed }),
  );
}

-- **where they are the maps of field d of a lattice, it is that of whatever is stored**
pub restriction_stored : {L : Lattice} {d E F : ℕ} {sub whole : FieldMap} {g : List (List ℕ)}
    → Stored L d E sub.images → IsBetween L.rows d E sub
    → Stored L d F whole.images → IsBetween L.rows d F whole
    → ((v : List ℕ) → (field_values whole.target).Valid v
    → (evaluate (field_values whole.target).ops g v ≡ (field_values whole.target).ops.zero)
    ↔ Extends sub whole v)
    → (m n : List (List ℕ)) → Stored L d E m → Stored L d F n
    → IsRestriction (field_at L.rows E) (field_at L.rows F) m n g
restriction_stored {L} {d} {E} {F} {sub} {whole} {g} x s y t roots m n h k =
    subst (λ K. IsRestriction K (field_at L.rows F) m n g) s.target
    (subst (λ K. IsRestriction sub.target K m n g) t.target
    (subst (λ w. IsRestriction sub.target whole.target w n g) (stored_one x h)
    (subst (λ w. IsRestriction sub.target whole.target sub.images w g) (stored_one y k)
    (restriction_of sub whole g roots))))

module _ {L : Lattice} {E F : ℕ} (C : IsCompatible L) (A : AreFields L E F) (same : AreAlike L E F)
    {needed : ℕ → Type 0} {i : ℕ} {g h k : List (List ℕ)}
    (G : Narrows L E F needed i None g)
    (first : IsPolynomial (field_values (field_at L.rows F)) g)
    (second : IsPolynomial (field_values (field_at L.rows F)) h)
    (divisor : IsGreatestCommonDivisor (field_values (field_at L.rows F)) g h k) where
  common : (w : List ℕ)
      → (IsRoot (field_at L.rows F) (constants (field_at L.rows F) (field_at L.rows E).polynomial) w
      × IsRoot (field_at L.rows F) k w)
      ↔ ((IsRoot (field_at L.rows F) (constants (field_at L.rows F) (field_at L.rows E).polynomial) w
      × IsRoot (field_at L.rows F) g w) × IsRoot (field_at L.rows F) h w)
  common = narrowed (field_at L.rows F)
      (IsRoot (field_at L.rows F) (constants (field_at L.rows F) (field_at L.rows E).polynomial))
      g h k (common_roots (field_at L.rows F) (finite_at C F A.target) g h k first second divisor)

  -- **the greatest common divisor with the polynomial of field i agrees with that field too**
  pub narrows_needed : needed i → {m n : List (List ℕ)} → Stored L i E m → Stored L i F n
      → IsRestriction (field_at L.rows E) (field_at L.rows F) m n h
      → Narrows L E F needed (i + 1) None k
  narrows_needed need x y H = selects_common C A same G need x y H common

  -- **and that with the polynomial of a prescribed pair sends the one to the other**
  pub narrows_sent : {a b : List ℕ} → (field_values (field_at L.rows E)).Valid a
      → (field_values (field_at L.rows F)).Valid b → h ≡ prescription (field_at L.rows F) a b
      → Narrows L E F needed i (Some (a, b)) k
  narrows_sent {a} {b} va vb is = selects_sent C A same G
      (subst (IsPrescription (field_at L.rows E) (field_at L.rows F) a b) (sym is)
      (prescription_is (field_at L.rows E) (field_at L.rows F) (finite_at C E A.source) (finite_at C F A.target) same a b va vb))
      common
