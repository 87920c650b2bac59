-- No line is left.
use Rattle.std.proofs.Common.{◌≡◌}
use Rattle.lat_audit.specs.Readings.{Content, MapCount, Behind}
use Rattle.lat_audit.proofs.ReadLines.{stops_unended}
use Rattle.lat_audit.proofs.readings.read_map_count.Goals as goal

pub returns-in-None : goal.returns-in-None
returns-in-None c = λ rows. stops_unended (MapCount rows) c.args.number c.args.lines.now.text.now
    (λ (d : Content) (e : MapCount rows ≡ Behind d). cc) c.in-None.ensures
