-- No line is left.
use Rattle.std.proofs.Common.{◌≡◌}
use Rattle.lat_audit.specs.Readings.{Content, Map, Behind}
use Rattle.lat_audit.proofs.ReadLines.{stops_unended}
use Rattle.lat_audit.proofs.readings.read_image.Goals as goal

pub returns-in-None : goal.returns-in-None
returns-in-None c = λ count. stops_unended (Map c.args.rows.now count c.args.images.now) c.args.number c.args.lines.now.text.now
    (λ (d : Content) (e : Map c.args.rows.now count c.args.images.now ≡ Behind d). cc) c.in-None.ensures
