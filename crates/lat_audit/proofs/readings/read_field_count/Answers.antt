-- No line is left.
use Rattle.std.proofs.Common.{◌≡◌}
use Rattle.lat_audit.specs.Readings.{Content, FieldCount, Behind}
use Rattle.lat_audit.proofs.ReadLines.{stops_unended}
use Rattle.lat_audit.proofs.readings.read_field_count.Goals as goal

pub returns-in-None : goal.returns-in-None
returns-in-None c = stops_unended FieldCount 2 c.args.lines.now.text.now (λ (d : Content) (e : FieldCount ≡ Behind d). cc) c.in-None.ensures
