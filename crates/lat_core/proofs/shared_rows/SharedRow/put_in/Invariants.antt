use Rattle.std.proofs.Common.{◌≡◌, drop}
use Rattle.lat_core.specs.PrivateLattices.{row_with}
use Rattle.lat_core.proofs.shared_rows.SharedRow.put_in.Given as goal

-- what is left to be put in leads to the same row
abbrev pub invariant-loop-row : goal.invariant-loop-row
invariant-loop-row l =
    row_with l.number l.self (drop l.row-index l.maps) ≡ row_with l.fn.number l.fn.self l.fn.maps
