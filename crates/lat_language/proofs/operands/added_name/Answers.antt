-- The digits are those of a number of a field.
use Rattle.std.proofs.Common.{arith}
use Rattle.lat_language.proofs.operands.added_name.Goals as goal

pub returns-in-None : goal.returns-in-None
returns-in-None c = λ n l. c.in-None.ensures n (omega arith)

pub returns-in-Some : goal.returns-in-Some
returns-in-Some c = (c.in-Some.number, omega (arith, c.in-Some.ensures.0), c.in-Some.ensures.1, c.made.ensures)
