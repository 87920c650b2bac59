-- No line is left.
use Rattle.std.proofs.Common.{◌≡◌}
use Rattle.lat_audit.specs.Readings.{Content, End, Behind}
use Rattle.lat_audit.proofs.ReadLines.{stops_unended}
use Rattle.lat_audit.proofs.readings.read_end.Goals as goal

pub returns-in-None : goal.returns-in-None
returns-in-None c = λ content. stops_unended (End content) c.args.number c.args.lines.now.text.now
    (λ (d : Content) (e : End content ≡ Behind d). cc) c.in-None.ensures
