-- The values of a field: residues of polynomials modulo a monic f, as lists of exactly deg f
-- coefficients.
--     padded o n xs            xs with zeros at its end up to n places
--     remainder o f xs           the remainder of xs by the monic f, as a list of deg f places
--     value_ops o f            sums placewise, products reduced
--     values c f               the values over c modulo f
use Rattle.std.specs.Prelude.{◌≡◌, ℕ, ◌-◌, List, [], ◌∷◌, ◌++◌, length, map, replicate, take, All, slice_index_or}
use Rattle.std.specs.List.{list_all}
use Rattle.alg_model.specs.Coefficients.{Ops, Carrier}
use Rattle.alg_model.specs.Polynomials.{sum, scale, product}

abbrev pub degree : {A : Type 0} → List A → ℕ
degree f = length f - 1

module _ {A : Type 0} (o : Ops A) where
  abbrev pub padded : ℕ → List A → List A
  padded n xs = xs ++ replicate (n - length xs) o.zero

  -- x * r modulo the monic f, for r of n = deg f places: the top coefficient t of r gives -t * f
  abbrev pub times_x : List A → List A → List A
  times_x f r = take (degree f)
      (sum o (o.zero ∷ r) (scale o (o.neg (slice_index_or r (degree f - 1) o.zero)) f))

  -- c + x * g has the remainder c + x * (remainder of g)
  abbrev pub remainder : List A → List A → List A
  remainder f [] = replicate (degree f) o.zero
  remainder f (c ∷ g) = sum o (padded (degree f) (c ∷ [])) (times_x f (remainder f g))

  abbrev pub value_ops : List A → Ops (List A)
  value_ops f = record {
    zero = replicate (degree f) o.zero;
    one = padded (degree f) (o.one ∷ []);
    add = sum o;
    mul = λ a b. remainder f (product o a b);
    neg = map o.neg;
    is_zero = list_all o.is_zero;
  }

abbrev pub values : {A : Type 0} → Carrier A → List A → Carrier (List A)
values c f = record {
  ops = value_ops c.ops f;
  Valid = λ a. All c.Valid a × (length a ≡ degree f);
}
