use Rattle.std.proofs.Common.{◌≡◌, ◌≤◌, ◌*◌, take}
use Rattle.std.specs.FinMap.{len}
use Rattle.std.specs.List.{sum_by}
use Rattle.lat_core.proofs.lattices.count_maps.Given as goal

abbrev pub invariant-loop-row : goal.invariant-loop-row
invariant-loop-row l = record {
  sum : l.count ≡ sum_by (λ r. len r.value.maps) (take l.row-index l.rows);
  small : l.count ≤ 200 * l.row-index;
}
