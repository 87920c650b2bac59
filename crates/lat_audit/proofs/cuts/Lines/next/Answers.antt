-- What is cut off at the first line feed is the first line.
use Rattle.lat_audit.proofs.LineWords.{first_line}
use Rattle.lat_audit.proofs.cuts.Lines.next.Goals as goal

pub returns-in-Some : goal.returns-in-Some
returns-in-Some c = first_line c.args.self.now.text.now c.in-Some.line.now c.in-Some.rest.now c.in-Some.ensures
