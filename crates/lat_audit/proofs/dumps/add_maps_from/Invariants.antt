use Rattle.std.proofs.Common.{◌≡◌, ◌++◌}
use Rattle.lat_audit.specs.Dumps.{stored_lines}
use Rattle.lat_audit.specs.PrivateDumps.{maps_to}
use Rattle.lat_audit.proofs.dumps.add_maps_from.Given as goal

-- the lines of the maps into the fields so far are appended
abbrev pub invariant-loop-j : goal.invariant-loop-j
invariant-loop-j l =
    l.out.items ≡ l.fn.out.items ++ stored_lines l.lattice.rows (maps_to l.lattice l.fn.i l.j)
