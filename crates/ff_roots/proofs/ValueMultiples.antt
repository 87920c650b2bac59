-- A sum with a multiple by a residue, digit by digit.
use Rattle.std.proofs.Common.{◌≡◌, ℕ, ◌+◌, ◌*◌, ◌%◌, ◌<◌, List, length, slice_index, ap, sym, ◌∙◌, arith, ext_get_or, mod-eq_of_lt}
use native.Mathlib.Nat.{add-mod-mod, zero-mul}
use Rattle.alg_model.specs.Coefficients.{Ops, mod_ops}
use Rattle.alg_model.specs.Polynomials.{scale}
use Rattle.alg_model.specs.Fields.{IsRing}
use Rattle.alg_model.specs.Maps.{Field, field_values, degree_of, constant}
use Rattle.alg_rings.proofs.Lists
use Rattle.alg_rings.proofs.ResidueFields.{prime_residues_field, residues_propositional}
use Rattle.alg_finite.proofs.Values
use Rattle.alg_galois.proofs.Fields.{modulus_of, modulus}
use Rattle.alg_splitting.proofs.ConstantPolynomials.{constant_valid}
use Rattle.ff_residues.proofs.ResidueLists.{below_at}
use Rattle.ff_field.specs.SmallFields.{IsSmallField}
use Rattle.ff_field.proofs.RemainderRows.{sum_at_both, scale_at}
use Rattle.ff_polyx.proofs.FieldCarriers.{ring}

module _ (F : Field) (W : IsSmallField F) where
  abbrev p : ℕ
  p = F.characteristic

  abbrev o : Ops (List ℕ)
  o = (field_values F).ops

  abbrev R : IsRing (field_values F)
  R = ring F W

  -- a multiple by a constant
  multiple : (c : ℕ) → c < F.characteristic → (v : List ℕ) → (field_values F).Valid v
      → (field_values F).ops.mul v (constant F c) ≡ scale (mod_ops F.characteristic) c v
  multiple c l v vv =
      R.mul_comm v (constant F c) vv (constant_valid F W.finite c l)
      ∙ Values.constant_times (residues_propositional p)
      (prime_residues_field p W.finite.characteristic)
      (modulus p W.finite.characteristic F.polynomial (modulus_of F W.finite))
      W.finite.irreducible.not_constant W.finite.monic (c, l) (v, vv)

  module _ (a v : List ℕ) (va : (field_values F).Valid a) (vv : (field_values F).Valid v)
      (c : ℕ) (l : c < F.characteristic) where
    pub multiple_added_valid : (field_values F).Valid
        ((field_values F).ops.add a ((field_values F).ops.mul v (constant F c)))
    multiple_added_valid = R.add_valid a (o.mul v (constant F c)) va
        (R.mul_valid v (constant F c) vv (constant_valid F W.finite c l))

    -- **a + c v by its digits**
    pub multiple_added : (y : List ℕ) → length y ≡ degree_of F
        → ((k : ℕ) → k < degree_of F
        → slice_index y k ≡ (slice_index a k + c * slice_index v k) % F.characteristic)
        → y ≡ (field_values F).ops.add a ((field_values F).ops.mul v (constant F c))
    multiple_added y e h =
        ext_get_or 0 y (o.add a (o.mul v (constant F c))) (e ∙ sym multiple_added_valid.1)
        (λ k m. h k (omega (arith, e))
        ∙ sym (add-mod-mod (slice_index a k) (c * slice_index v k) p)
        ∙ ap (λ w. (slice_index a k + w) % p) (sym (scale_at p c v k))
        ∙ sym (sum_at_both p a (scale (mod_ops p) c v) k (omega (arith, e, va.1))
        (omega (arith, e, vv.1, Lists.length_scale (mod_ops p) c v)))
        ∙ ap (λ w. slice_index (o.add a w) k) (sym (multiple c l v vv)))

    -- with c = 0 it is a
    pub nothing_added : c ≡ 0
        → a ≡ (field_values F).ops.add a ((field_values F).ops.mul v (constant F c))
    nothing_added z = multiple_added a va.1 (λ k m.
        let below : slice_index a k < p = below_at p a k (omega (arith, l)) va.0 in
        let none : c * slice_index v k ≡ 0 = ap (λ w. w * slice_index v k) z ∙ zero-mul (slice_index v k) in
        sym (mod-eq_of_lt below) ∙ ap (λ w. w % p)
        (let e : slice_index a k ≡ slice_index a k + c * slice_index v k = omega (arith, none) in e))
