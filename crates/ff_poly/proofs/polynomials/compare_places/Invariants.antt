use Rattle.std.proofs.Common.{◌≡◌, ◌≤◌, length, drop, Equal}
use Rattle.std.specs.Ordering.{nat_cmp}
use Rattle.alg_model.specs.Factors.{order_by}
use Rattle.ff_poly.proofs.polynomials.compare_places.Given as goal

abbrev pub invariant-loop-n : goal.invariant-loop-n
invariant-loop-n l = record {
  within : l.n ≤ length l.a;
  equal : order_by nat_cmp (drop l.n l.a) (drop l.n l.b) ≡ Equal;
}

abbrev pub decreases-loop-n : goal.decreases-loop-n
decreases-loop-n l = l.n
