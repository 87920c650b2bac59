use Rattle.std.proofs.Common.{◌≡◌, drop}
use Rattle.lat_core.specs.SharedRows.{RowMaps}
use Rattle.lat_core.specs.PrivateLattices.{row_with}
use Rattle.lat_core.proofs.lattices.begins.Given as goal

-- those so far begin elsewhere
abbrev pub invariant-loop-map : goal.invariant-loop-map
invariant-loop-map l =
    (r : RowMaps) → row_with l.number r (drop l.map-index l.maps) ≡ row_with l.number r l.maps
