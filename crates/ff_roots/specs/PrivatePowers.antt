-- What the search for roots keeps of the powers of Frobenius. No public clause cites this module.
--     ArePowers F g n ys     ys are n polynomials shorter than g, congruent modulo g to y, y^p, ..
use Rattle.std.specs.Prelude.{◌≡◌, ℕ, ◌<◌, List, [], length, slice_index_or}
use Rattle.alg_model.specs.Factors.{IsPolynomial}
use Rattle.alg_model.specs.Maps.{Field, field_values}
use Rattle.alg_splitting.specs.PrivateSearch.{IsFrobeniusModulo}

-- the first n of the powers y, y^p, y^(p^2), .. modulo g
pub record ArePowers (F : Field) (g : List (List ℕ)) (n : ℕ) (ys : List (List (List ℕ)))
    : Type 0 where
  pub count : length ys ≡ n
  pub polynomials : (k : ℕ) → k < n → IsPolynomial (field_values F) (slice_index_or ys k [])
  pub short : (k : ℕ) → k < n → length (slice_index_or ys k []) < length g
  pub powers : (k : ℕ) → k < n → IsFrobeniusModulo F g k (slice_index_or ys k [])
