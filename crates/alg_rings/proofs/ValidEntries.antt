-- The entries of columns over a carrier are valid, zeros past the end included.
use Rattle.std.proofs.Common.{ℕ, List, [], length, get_or, All, sym, subst, ⊎_elim}
use Rattle.std.proofs.lemmas.List.{get_or_past}
use Rattle.std.proofs.lemmas.Bool.{cases_lt}
use Rattle.alg_model.specs.Coefficients.{Carrier}
use Rattle.alg_model.specs.Fields.{IsRing}
use Rattle.alg_model.specs.Matrices.{IsColumn}
use Rattle.alg_rings.proofs.Validity.{place_valid}

module _ {A : Type 0} {c : Carrier A} (R : IsRing c) where
  pub columns_valid_at : (n : ℕ) (cs : List (List A)) → All (IsColumn c n) cs → (i j : ℕ) → c.Valid (get_or (get_or cs j []) i c.ops.zero)
  columns_valid_at n cs w i j = ⊎_elim (λ l. place_valid R (get_or cs j []) i (w j [] l).1)
      (λ l. subst (λ x. c.Valid (get_or x i c.ops.zero)) (sym (get_or_past cs j [] l)) R.zero_valid) (cases_lt j (length cs))
