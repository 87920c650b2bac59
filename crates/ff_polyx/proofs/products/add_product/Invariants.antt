use Rattle.std.proofs.Common.{◌≡◌, ℕ, ◌+◌, ◌<◌, ◌≤◌, length, slice_index_or, drop, All}
use Rattle.alg_model.specs.Polynomials.{product}
use Rattle.alg_model.specs.Maps.{field_values}
use Rattle.ff_polyx.proofs.products.add_product.Given as goal

abbrev pub invariant-loop-i : goal.invariant-loop-i
invariant-loop-i l = let c = field_values l.field in let o = c.ops in record {
  within : l.i ≤ length l.a;
  len : length l.places ≡ length l.initial.places;
  values : All c.Valid l.places;
  low : (k : ℕ) → k < l.i → slice_index_or l.places k o.zero ≡ o.zero;
  high : (k : ℕ) → slice_index_or l.places (l.i + k) o.zero
      ≡ slice_index_or (product o (drop l.i l.a) l.b) k o.zero;
}

abbrev pub decreases-loop-i : goal.decreases-loop-i
decreases-loop-i l = l.i
