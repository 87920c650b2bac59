-- The identity among the matrices over a ring, by its entries.
use Rattle.std.proofs.Common.{◌≡◌, ◌↔◌, ℕ, ◌<◌, ◌==◌, cond, length, refl, ap, sym, ◌∙◌, subst, arith}
use Rattle.alg_model.specs.Coefficients.{Carrier}
use Rattle.alg_model.specs.Fields.{IsRing}
use Rattle.alg_model.specs.Matrices.{Matrix, entry, identity_matrix, IsMatrix}
use Rattle.alg_linear.proofs.CarrierMatrices.{matrix_long, identity_valid, entry_of_identity, delta_value}
use Rattle.alg_linear.proofs.Columns.{AreLong, same_matrices, length_identity}

module _ {A : Type 0} {c : Carrier A} (R : IsRing c) where
  pub identity_iff : (m : Matrix A) → IsMatrix c m → (n : ℕ) → m.rows ≡ n → length m.columns ≡ n
      → ((k : ℕ) → k < length m.columns → (r : ℕ) → r < m.rows → entry c.ops m r k ≡ cond (r == k) c.ops.one c.ops.zero) ↔ (m ≡ identity_matrix c.ops n)
  identity_iff m w n e d = (
    (λ h. same_matrices c.ops m (identity_matrix c.ops n) n e refl
        (subst (λ j. AreLong j m.columns) e (matrix_long c m w)) (matrix_long c (identity_matrix c.ops n) (identity_valid R n))
        (d ∙ sym (length_identity c.ops n))
        (λ r k lr lk. h k lk r (omega arith) ∙ sym (entry_of_identity R n r k lr (omega arith) ∙ delta_value R r k))),
    (λ h k lk r lr. ap (λ i. entry c.ops i r k) h ∙ entry_of_identity R n r k (omega arith) (omega arith) ∙ delta_value R r k),
  )
