-- Conjugates of a value, and their sum and product.
--     conjugates o q n a           a, a^q, a^(q^2), .., n of them
--     sum_all o xs, product_all o xs     the sum and the product of a list
--     trace F a, norm F a          the sum and the product of a, a^p, .., a^(p^(deg F - 1)):
--                                  constants of F
--     trace_over E F a, norm_over E F a     the same of a, a^q, .. for q = p^deg E, deg F / deg E
--                                  of them
use Rattle.std.specs.Prelude.{ℕ, ◌/◌, ◌^◌, List, [], ◌∷◌, map}
use Rattle.std.specs.List.{range_with_len}
use Rattle.alg_model.specs.Coefficients.{Ops, power}
use Rattle.alg_model.specs.Maps.{Field, field_values, degree_of}

module _ {A : Type 0} (o : Ops A) where
  abbrev pub conjugates : ℕ → ℕ → A → List A
  conjugates q n a = map (λ i. power o a (q ^ i)) (range_with_len 0 n)

  abbrev pub sum_all : List A → A
  sum_all [] = o.zero
  sum_all (x ∷ xs) = o.add x (sum_all xs)

  abbrev pub product_all : List A → A
  product_all [] = o.one
  product_all (x ∷ xs) = o.mul x (product_all xs)

abbrev pub trace : Field → List ℕ → List ℕ
trace F a = sum_all (field_values F).ops
    (conjugates (field_values F).ops F.characteristic (degree_of F) a)

abbrev pub norm : Field → List ℕ → List ℕ
norm F a = product_all (field_values F).ops
    (conjugates (field_values F).ops F.characteristic (degree_of F) a)

-- over a field E whose degree divides that of F
abbrev pub conjugates_over : Field → Field → List ℕ → List (List ℕ)
conjugates_over E F a = conjugates (field_values F).ops (F.characteristic ^ degree_of E)
    (degree_of F / degree_of E) a

abbrev pub trace_over : Field → Field → List ℕ → List ℕ
trace_over E F a = sum_all (field_values F).ops (conjugates_over E F a)

abbrev pub norm_over : Field → Field → List ℕ → List ℕ
norm_over E F a = product_all (field_values F).ops (conjugates_over E F a)
