-- The number is below the bound.
use Rattle.std.proofs.Common.{sym, arith, lit≤}
use Rattle.lat_language.proofs.ReadWords.{number_none, number_given}
use Rattle.lat_language.proofs.operands.characteristic.Goals as goal

pub returns-in-None : goal.returns-in-None
returns-in-None c = sym (number_none 4294967296 c.args.word.now (λ n l. c.in-None.ensures n (omega arith)))

pub returns-in-Some : goal.returns-in-Some
returns-in-Some c =
    sym (number_given 4294967296 (lit≤ tt) c.args.word.now c.in-Some.number (c.in-Some.ensures.1, omega (arith, c.in-Some.ensures.0)))
