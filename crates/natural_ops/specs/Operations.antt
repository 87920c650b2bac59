-- Operations on the values of finite fields, as a polynomial for each characteristic.
--     IsOpTable table              the k-th polynomial is over the k-th characteristic
--     coefficients_for table p     the coefficients of the table's polynomial over p
--     value_at table K a           the value of that polynomial at a, in the field K
--     Realizes can_run gives table f     f runs at each value of each field, and gives the
--                                  table's value there
use Rattle.std.specs.Prelude.{◌≡◌, ℕ, ◌==◌, cond, List, [], ◌∷◌, map, All}
use Rattle.alg_model.specs.Coefficients.{primes}
use Rattle.alg_model.specs.Polynomials.{evaluate}
use Rattle.alg_model.specs.Maps.{Field, field_values, constants}
use Rattle.ff_poly.specs.Polynomial.{Polynomial, IsPoly}
use Rattle.ff_field.specs.SmallFields.{IsSmallField}

-- one polynomial for each characteristic, in the order of the characteristics
pub record IsOpTable (table : List Polynomial) : Type 0 where
  pub characteristics : map (λ f. f.prime) table ≡ primes
  pub polynomials : All IsPoly table

-- the polynomial over the residues modulo p
abbrev pub coefficients_for : List Polynomial → ℕ → List ℕ
coefficients_for [] p = []
coefficients_for (f ∷ fs) p = cond (f.prime == p) f.coefficients (coefficients_for fs p)

-- the sum of c_i * a^i, for the coefficients c_i of the polynomial of the field's characteristic
abbrev pub value_at : List Polynomial → Field → List ℕ → List ℕ
value_at table K a = evaluate (field_values K).ops
    (constants K (coefficients_for table K.characteristic)) a

-- it runs at each value of each field, and all that it may give there is the table's value
pub record Realizes {F : Type 0} (can_run : F → Field → List ℕ → Type 0)
    (gives : F → Field → List ℕ → List ℕ → Type 0) (table : List Polynomial) (f : F)
    : Type 0 where
  pub runs : (K : Field) (a : List ℕ) → IsSmallField K → (field_values K).Valid a
      → can_run f K a
  pub answers : (K : Field) (a b : List ℕ) → IsSmallField K → (field_values K).Valid a
      → gives f K a b → b ≡ value_at table K a
