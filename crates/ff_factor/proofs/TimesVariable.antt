-- x * r modulo a monic f, by its places.
use Rattle.std.proofs.Common.{◌≡◌, ℕ, ◌+◌, ◌-◌, ◌*◌, ◌%◌, ◌<◌, List, ◌∷◌, length, slice_index, slice_index_or, ap, sym, ◌∙◌, arith, length-take, get_or-take}
use Rattle.std.proofs.Math.Nat.{add-mod-mod}
use native.Mathlib.Nat.{add_comm}
use Rattle.alg_model.specs.Coefficients.{Ops, mod_ops}
use Rattle.alg_model.specs.Polynomials.{sum, scale}
use Rattle.alg_model.specs.Values.{degree, times_x}
use Rattle.alg_rings.proofs.Lists.{length_scale}
use Rattle.alg_linear.proofs.Columns.{length_same_sum, same_sum_at, scaled_at, same_columns}

module _ {A : Type 0} (o : Ops A) (f r : List A) (sizes : length f ≡ length r + 1) where
  abbrev multiple : A
  multiple = o.neg (slice_index_or r (degree f - 1) o.zero)

  long : length (sum o (o.zero ∷ r) (scale o multiple f)) ≡ length f
  long = length_same_sum o (o.zero ∷ r) (scale o multiple f) (length f) (omega arith) (length_scale o multiple f)

  pub length_times_x : length (times_x o f r) ≡ length r
  length_times_x = omega (arith, length-take (degree f) (sum o (o.zero ∷ r) (scale o multiple f)), long)

  pub times_x_at : (k : ℕ) → k < length r → slice_index_or (times_x o f r) k o.zero
      ≡ o.add (slice_index_or (o.zero ∷ r) k o.zero) (o.mul (o.neg (slice_index_or r (degree f - 1) o.zero)) (slice_index_or f k o.zero))
  times_x_at k l =
      get_or-take (degree f) (sum o (o.zero ∷ r) (scale o multiple f)) k o.zero (omega arith)
      ∙ same_sum_at o (o.zero ∷ r) (scale o multiple f) (length f) k (omega arith) (length_scale o multiple f) (omega arith)
      ∙ ap (o.add (slice_index_or (o.zero ∷ r) k o.zero)) (scaled_at o multiple f k (omega arith))

-- **x times the polynomial of these places**
pub product_by_places : (p : ℕ) (f xs ys : List ℕ) → length f ≡ length xs + 1 → length ys ≡ length xs
    → ((k : ℕ) → k < length xs
    → slice_index ys k ≡ ((p - slice_index xs (length xs - 1)) % p * slice_index f k + slice_index (0 ∷ xs) k) % p)
    → ys ≡ times_x (mod_ops p) f xs
product_by_places p f xs ys sizes same at =
    same_columns (mod_ops p) (length xs) ys (times_x (mod_ops p) f xs) same (length_times_x (mod_ops p) f xs sizes) each
  where
    each : (k : ℕ) → k < length xs → slice_index ys k ≡ slice_index (times_x (mod_ops p) f xs) k
    each k l =
        let i : length xs - 1 ≡ degree f - 1 = omega arith in
        let m = (p - slice_index xs (length xs - 1)) % p * slice_index f k in
        let b = slice_index (0 ∷ xs) k in
        at k l ∙ ap (λ w. w % p) (add_comm m b) ∙ sym (add-mod-mod b m p)
        ∙ ap (λ j. (b + ((p - slice_index xs j) % p * slice_index f k) % p) % p) i
        ∙ sym (times_x_at (mod_ops p) f xs sizes k l)
