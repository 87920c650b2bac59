use Rattle.std.proofs.Common.{◌≡◌, ◌*◌, ◌≤◌}
use Rattle.ff_field.specs.PrivateTables.{scalar_sum}
use Rattle.ff_field.proofs.traces.scalar_product.Given as goal

abbrev pub invariant-loop-i : goal.invariant-loop-i
invariant-loop-i l = record {
  sum : l.sum ≡ scalar_sum l.i l.a l.b;
  fits : l.sum ≤ l.i * 65025;
}
