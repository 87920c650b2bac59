use Rattle.std.proofs.Common.{◌≡◌, ◌++◌}
use Rattle.lat_audit.specs.Dumps.{stored_lines}
use Rattle.lat_audit.specs.PrivateDumps.{maps_below}
use Rattle.lat_audit.proofs.dumps.add_maps.Given as goal

-- the lines of the maps from the fields so far are appended
abbrev pub invariant-loop-i : goal.invariant-loop-i
invariant-loop-i l =
    l.out.items ≡ l.fn.out.items ++ stored_lines l.lattice.rows (maps_below l.lattice l.i)
