-- Polynomials that are their own power q modulo another one, over any carrier (Berlekamp).
--     IsFixed c q f v          f divides v^q - v
--     less_constant o v a      v - a
--     IsCertified c q f        f is coprime to its derivative, and what is fixed modulo f and
--                              shorter than f is constant
use Rattle.std.specs.Prelude.{ℕ, ◌<◌, ◌≤◌, List, [], ◌∷◌, length}
use Rattle.alg_model.specs.Coefficients.{Ops, Carrier}
use Rattle.alg_model.specs.Polynomials.{trim, derivative, poly_difference, poly_power}
use Rattle.alg_model.specs.Factors.{IsPolynomial, Divides}
use Rattle.alg_divisors.specs.Factorization.{AreCoprime}

abbrev pub IsFixed : {A : Type 0} → Carrier A → ℕ → List A → List A → Type 0
IsFixed c q f v = Divides c f (poly_difference c.ops (poly_power c.ops v q) v)

abbrev pub less_constant : {A : Type 0} → Ops A → List A → A → List A
less_constant o v a = poly_difference o v (trim o (a ∷ []))

pub record IsCertified {A : Type 0} (c : Carrier A) (q : ℕ) (f : List A) : Type 0 where
  pub separable : AreCoprime c f (derivative c.ops f)
  pub only_constants : (v : List A) → IsPolynomial c v → length v < length f → IsFixed c q f v
      → length v ≤ 1
