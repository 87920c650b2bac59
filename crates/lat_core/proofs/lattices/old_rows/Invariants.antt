use Rattle.std.proofs.Common.{◌≡◌, map, take}
use Rattle.lat_core.specs.PrivateLattices.{rows_with}
use Rattle.lat_core.proofs.lattices.old_rows.Given as goal

abbrev pub invariant-loop-number : goal.invariant-loop-number
invariant-loop-number l =
    map (λ r. r.value) l.grown.items ≡ rows_with 0 (map (λ r. r.value) (take l.number l.rows)) l.maps
