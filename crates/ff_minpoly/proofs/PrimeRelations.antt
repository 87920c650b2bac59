-- The first relation of the powers of a value over the prime field: its minimal polynomial.
use Rattle.std.proofs.Common.{◌≡◌, ◌≢◌, ℕ, ◌+◌, ◌*◌, ◌%◌, ◌<◌, ◌≤◌, List, [], ◌∷◌, ◌++◌, length, slice_index, slice_index_or, refl, ap, sym, ◌∙◌, subst, arith}
use Rattle.std.proofs.lemmas.List.{length-append, get_or_append_left, get_or_push}
use Rattle.std.proofs.lemmas.List.Elements.{All-append, All-nil, All-cons}
use native.Mathlib.Nat.{mod-mod, zero-add, mul-one}
use Rattle.alg_model.specs.Coefficients.{residues, mod_ops}
use Rattle.alg_model.specs.Fields.{IsRing}
use Rattle.alg_model.specs.Maps.{Field, IsFiniteField, field_values, degree_of, constant}
use Rattle.alg_model.specs.Roots.{IsMinimal}
use Rattle.alg_rings.proofs.ResidueFields.{prime_residues_field, residues_propositional}
use Rattle.ff_residues.specs.SumRows.{sum_below}
use Rattle.ff_field.proofs.RemainderRows.{scale_at}
use Rattle.ff_minpoly.specs.PrivateRelations.{HasRelation, IsRelation}
use Rattle.ff_minpoly.proofs.ValuePlaces.{ring, scaled, constant_valid}
use Rattle.ff_minpoly.proofs.ShortPolynomials.{prime_short}
use Rattle.ff_minpoly.proofs.MinimalRelations.{monic_dependent, relation_is_minimal}

one_is_not_zero : (n : ℕ) → n ≡ 1 → n ≡ 0 → ⊥
one_is_not_zero n e z = absurd (omega arith)

module _ (F : Field) (W : IsFiniteField F) (a : List ℕ) (va : (field_values F).Valid a) where
  abbrev p : ℕ
  p = F.characteristic

  abbrev block : List (List ℕ)
  block = (field_values F).ops.one ∷ []

  one_not_zero : (mod_ops F.characteristic).one ≢ (mod_ops F.characteristic).zero
  one_not_zero e = one_is_not_zero 1 refl e

  above : 1 < F.characteristic
  above = W.characteristic.above_one

  prime_ring : IsRing (residues F.characteristic)
  prime_ring = (prime_residues_field p W.characteristic).ring

  spread : (x : ℕ) → x < F.characteristic → (w : List ℕ) → (field_values F).Valid w → (k : ℕ)
      → k < degree_of F
      → slice_index ((field_values F).ops.mul (constant F x) w) k % F.characteristic
      ≡ sum_below 1 (λ i. x * slice_index ((field_values F).ops.mul
      (slice_index_or ((field_values F).ops.one ∷ []) i []) w) k) % F.characteristic
  spread x vx w vw k l =
      ap (λ v. slice_index v k % p) (scaled F W x vx w vw)
      ∙ ap (λ y. y % p) (scale_at p x w k) ∙ mod-mod (x * slice_index w k) p
      ∙ ap (λ y. y % p) (sym (zero-add (x * slice_index w k))
      ∙ ap (λ v. 0 + x * slice_index v k) (sym ((ring F W).one_mul w vw)))

  -- **there is one**
  pub prime_relation_exists : HasRelation F ((field_values F).ops.one ∷ []) a
  prime_relation_exists =
      let S = prime_short F W a va in
      record {
        degree = S.1.degree;
        fits = subst (λ q. q ≤ degree_of F) (sym (mul-one S.1.degree)) S.1.small;
        dependent = monic_dependent F W (residues p) (residues_propositional p) prime_ring
            one_not_zero (constant F) (λ x i. x) block (constant_valid F W) refl spread a va
            S.0 S.1.minimal.polynomial.0 S.1.minimal.monic S.1.minimal.vanishes S.1.degree S.1.long;
      }

  -- **it gives the minimal polynomial**
  pub prime_relation_is_minimal : (digits : List ℕ)
      → IsRelation F ((field_values F).ops.one ∷ []) a digits → IsMinimal F a (digits ++ 1 ∷ [])
  prime_relation_is_minimal digits R =
      let count : length digits ≡ R.degree = R.count ∙ mul-one R.degree in
      relation_is_minimal F W (residues p) (residues_propositional p) prime_ring
      one_not_zero (constant F) (λ x i. x) block (constant_valid F W) refl spread a va digits R
      (digits ++ 1 ∷ [])
      (All-append (λ x. x < p) digits (1 ∷ []) R.residues
      (All-cons (λ x. x < p) 1 [] above (All-nil (λ x. x < p))))
      (omega (arith, count, length-append digits (1 ∷ [])))
      (get_or_push digits 1 0 R.degree count)
      (λ j i lj li. let at : j * 1 + i ≡ j = omega (arith, mul-one j) in
      ap (slice_index digits) at
      ∙ sym (get_or_append_left digits (1 ∷ []) 0 j (omega (arith, count))))
