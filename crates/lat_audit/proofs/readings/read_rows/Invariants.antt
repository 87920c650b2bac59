use Rattle.std.proofs.Common.{◌≡◌, ◌+◌, [], length}
use Rattle.lat_audit.specs.Readings.{field_place}
use Rattle.lat_audit.specs.PrivateReadings.{Continues}
use Rattle.lat_audit.proofs.readings.read_rows.Given as goal

-- as many rows as the number says, and the lines of the fields so far are read
abbrev pub invariant-loop-number : goal.invariant-loop-number
invariant-loop-number l = record {
  rows : length l.rows.items ≡ l.number;
  read : Continues (field_place l.count []) 3 l.initial.lines.text.now (field_place l.count l.rows.items) (l.number + 3) l.lines.text.now;
}
