-- A line of a form has printable bytes.
use Rattle.lat_language.proofs.PrintableBytes.{printable_form}
use Rattle.lat_language.proofs.laws.printable_lines.Goals as goal

pub returns : goal.returns
returns c = record { lines = printable_form }
