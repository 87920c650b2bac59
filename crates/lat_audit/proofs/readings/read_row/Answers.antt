-- No line is left.
use Rattle.std.proofs.Common.{◌≡◌}
use Rattle.lat_audit.specs.Readings.{Content, Field, Behind}
use Rattle.lat_audit.proofs.ReadLines.{stops_unended}
use Rattle.lat_audit.proofs.readings.read_row.Goals as goal

pub returns-in-None : goal.returns-in-None
returns-in-None c = λ count. stops_unended (Field count c.args.rows.now) c.args.number c.args.lines.now.text.now
    (λ (d : Content) (e : Field count c.args.rows.now ≡ Behind d). cc) c.in-None.ensures
