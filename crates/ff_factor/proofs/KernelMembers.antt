-- A basis of the kernel of a matrix over a field with dependent columns: it has a first member, which isn't zero.
use Rattle.std.proofs.Common.{◌≡◌, ◌≢◌, ℕ, zero, suc, ◌<◌, List, [], ◌∷◌, length, slice_index_or, refl, ap, ap₂, sym, ◌∙◌, arith}
use Rattle.std.proofs.lemmas.List.{length-replicate}
use Rattle.std.proofs.lemmas.List.Elements.{All-head, All-cons, All-replicate}
use Rattle.alg_model.specs.Coefficients.{Carrier}
use Rattle.alg_model.specs.Polynomials.{sum, scale}
use Rattle.alg_model.specs.Fields.{IsField}
use Rattle.alg_model.specs.Matrices.{Matrix, combination, zero_column, IsColumn, IsIndependent, IsInKernel, IsKernelBasis}
use Rattle.alg_rings.specs.Laws.{IsPropositional}
use Rattle.alg_rings.proofs.Rings
use Rattle.alg_rings.proofs.Elements.{element_laws}

pub record HasKernelMember {A : Type 0} (c : Carrier A) (m : Matrix A) (basis : List (List A)) : Type 0 where
  pub not_empty : 0 < length basis
  pub member : (d : List A) → IsInKernel c m (slice_index_or basis 0 d)
  pub not_zero : (d : List A) → slice_index_or basis 0 d ≢ zero_column c.ops (length m.columns)

module _ {A : Type 0} {c : Carrier A} (P : IsPropositional c) (F : IsField c) where
  scale_zero : (a : A) (n : ℕ) → c.Valid a → scale c.ops a (zero_column c.ops n) ≡ zero_column c.ops n
  scale_zero a zero v = refl
  scale_zero a (suc n) v =
      ap₂ ◌∷◌ (ap (λ x. x.0) (Rings.mul_zero (element_laws P F.ring) (a, v))) (scale_zero a n v)

  pub kernel_member : (m : Matrix A) (basis : List (List A)) → IsKernelBasis c m basis → (IsIndependent c m.rows m.columns → ⊥)
      → HasKernelMember c m basis
  kernel_member m [] k dependent = absurd (dependent (λ x v e. let (y, w, s) = k.spans x (v, e) in sym s))
  kernel_member m (b ∷ bs) k dependent = record {
    not_empty = omega arith;
    member = λ d. All-head (IsInKernel c m) b bs k.members;
    not_zero = λ d z. F.one_not_zero (first (k.one_way (c.ops.one ∷ rest) (c.ops.zero ∷ rest) (valid c.ops.one F.ring.one_valid) (valid c.ops.zero F.ring.zero_valid)
        (ap (λ s. sum c.ops s (combination c.ops width bs rest)) (same c.ops.one F.ring.one_valid z ∙ sym (same c.ops.zero F.ring.zero_valid z)))));
  }
    where
      width : ℕ
      width = length m.columns

      rest : List A
      rest = zero_column c.ops (length bs)

      valid : (a : A) → c.Valid a → IsColumn c (length (b ∷ bs)) (a ∷ rest)
      valid a v = (
        ap suc (length-replicate (length bs) c.ops.zero),
        All-cons c.Valid a rest v (All-replicate c.Valid (length bs) c.ops.zero F.ring.zero_valid),
      )

      same : (a : A) → c.Valid a → b ≡ zero_column c.ops width → scale c.ops a b ≡ zero_column c.ops width
      same a v z = ap (scale c.ops a) z ∙ scale_zero a width v

      first : {x y : A} {xs ys : List A} → x ∷ xs ≡ y ∷ ys → x ≡ y
      first e = cc
