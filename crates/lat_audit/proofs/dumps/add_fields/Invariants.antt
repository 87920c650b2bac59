use Rattle.std.proofs.Common.{◌≡◌, ◌++◌, take}
use Rattle.lat_audit.specs.Dumps.{field_lines}
use Rattle.lat_audit.proofs.dumps.add_fields.Given as goal

-- the lines of the fields so far are appended
abbrev pub invariant-loop-number : goal.invariant-loop-number
invariant-loop-number l =
    l.out.items ≡ l.fn.out.items ++ field_lines 0 (take l.number l.lattice.rows)
