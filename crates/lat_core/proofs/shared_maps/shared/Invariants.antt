use Rattle.std.proofs.Common.{◌≡◌, take}
use Rattle.lat_core.proofs.shared_maps.shared.Given as goal

abbrev pub invariant-loop-row : goal.invariant-loop-row
invariant-loop-row l = l.list.items ≡ take l.row-index l.maps
