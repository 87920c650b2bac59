-- What the search for roots by traces speaks of: F is a finite field of characteristic p and degree
-- n, polynomials are over its values.
--     Splits F h           h isn't zero, and has as many roots in F as its degree
--     variable F           the polynomial y
--     poly_total o n f     f 0 + .. + f (n - 1), polynomials
--     AreCongruent F g a b          a and b are equal modulo g
--     IsFrobeniusModulo F g i a     a is y^(p^i) modulo g
--     IsFrobeniusAtRoots F g i a    the value of a at each root v of g is v^(p^i)
--     conjugate_sum F k c           c + c^p + .., k of them
--     IsConjugateSumAtRoots F g c k a     the value of a at each root v of g is the sum of the
--                                   first k conjugates of c * v
--     IsTraceAtRoots F g c a        the value of a at each root v of g is the trace of c * v
--     IsConstantAtRoots F g a       the value of a at each root of g is a constant
--     IsNarrowed F f k h   h is a divisor of f that splits, monic and not constant, whose roots
--                          agree in the traces of x^j times them for all j below k, x being the
--                          generator
use Rattle.std.specs.Prelude.{◌≡◌, ◌≢◌, ℕ, zero, suc, ◌^◌, ◌<◌, List, [], ◌∷◌, length, All, AllPairs}
use Rattle.alg_model.specs.Coefficients.{Ops, power}
use Rattle.alg_model.specs.Polynomials.{evaluate, poly_sum, poly_difference, poly_power}
use Rattle.alg_model.specs.Factors.{IsPolynomial, IsMonic, Divides}
use Rattle.alg_model.specs.Values.{degree}
use Rattle.alg_model.specs.Maps.{Field, field_values, generator, constant}
use Rattle.alg_model.specs.Roots.{IsRoot}
use Rattle.alg_model.specs.Conjugates.{conjugates, sum_all, trace}

pub record Splits (F : Field) (h : List (List ℕ)) : Type 0 where
  pub polynomial : IsPolynomial (field_values F) h
  pub not_zero : h ≢ []
  pub roots : List (List ℕ)
  pub count : length roots ≡ degree h
  pub different : AllPairs (λ a b. a ≢ b) roots
  pub are_roots : All (IsRoot F h) roots

abbrev pub variable : Field → List (List ℕ)
variable F = (field_values F).ops.zero ∷ (field_values F).ops.one ∷ []

abbrev pub poly_total : {A : Type 0} → Ops A → ℕ → (ℕ → List A) → List A
poly_total o zero f = []
poly_total o (suc n) f = poly_sum o (poly_total o n f) (f n)

abbrev pub AreCongruent : Field → List (List ℕ) → List (List ℕ) → List (List ℕ) → Type 0
AreCongruent F g a b = Divides (field_values F) g (poly_difference (field_values F).ops a b)

abbrev pub IsFrobeniusModulo : Field → List (List ℕ) → ℕ → List (List ℕ) → Type 0
IsFrobeniusModulo F g i a =
    AreCongruent F g a (poly_power (field_values F).ops (variable F) (F.characteristic ^ i))

abbrev pub IsFrobeniusAtRoots : Field → List (List ℕ) → ℕ → List (List ℕ) → Type 0
IsFrobeniusAtRoots F g i a = (v : List ℕ) → IsRoot F g v
    → evaluate (field_values F).ops a v ≡ power (field_values F).ops v (F.characteristic ^ i)

abbrev pub conjugate_sum : Field → ℕ → List ℕ → List ℕ
conjugate_sum F k c = sum_all (field_values F).ops
    (conjugates (field_values F).ops F.characteristic k c)

abbrev pub IsConjugateSumAtRoots : Field → List (List ℕ) → List ℕ → ℕ → List (List ℕ) → Type 0
IsConjugateSumAtRoots F g c k a = (v : List ℕ) → IsRoot F g v
    → evaluate (field_values F).ops a v ≡ conjugate_sum F k ((field_values F).ops.mul c v)

abbrev pub IsTraceAtRoots : Field → List (List ℕ) → List ℕ → List (List ℕ) → Type 0
IsTraceAtRoots F g c a = (v : List ℕ) → IsRoot F g v
    → evaluate (field_values F).ops a v ≡ trace F ((field_values F).ops.mul c v)

abbrev pub IsConstantAtRoots : Field → List (List ℕ) → List (List ℕ) → Type 0
IsConstantAtRoots F g a = (v : List ℕ) → IsRoot F g v
    → (t : ℕ) × (t < F.characteristic) × (constant F t ≡ evaluate (field_values F).ops a v)

pub record IsNarrowed (F : Field) (f : List (List ℕ)) (k : ℕ) (h : List (List ℕ)) : Type 0 where
  pub splits : Splits F h
  pub monic : IsMonic (field_values F) h
  pub not_constant : 1 < length h
  pub divides : Divides (field_values F) h f
  pub agree : (v w : List ℕ) → IsRoot F h v → IsRoot F h w → (j : ℕ) → j < k
      → trace F ((field_values F).ops.mul (power (field_values F).ops (generator F) j) v)
      ≡ trace F ((field_values F).ops.mul (power (field_values F).ops (generator F) j) w)
