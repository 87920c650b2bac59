-- No line is left.
use Rattle.std.proofs.Common.{◌≡◌}
use Rattle.lat_audit.specs.Readings.{Content, Header, Behind}
use Rattle.lat_audit.proofs.ReadLines.{stops_unended}
use Rattle.lat_audit.proofs.readings.read_header.Goals as goal

pub returns-in-None-clause-reading : goal.returns-in-None-clause-reading
returns-in-None-clause-reading c = stops_unended Header 1 c.args.lines.now.text.now (λ (d : Content) (e : Header ≡ Behind d). cc) c.in-None.ensures
