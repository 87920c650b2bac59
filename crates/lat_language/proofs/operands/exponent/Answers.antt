-- The number is below the bound.
use Rattle.std.proofs.Common.{lit≤}
use Rattle.lat_language.proofs.ReadWords.{number_read}
use Rattle.lat_language.proofs.operands.exponent.Goals as goal

pub returns : goal.returns
returns c = number_read 18446744073709551615 c.args.word.now c.read_number.result (lit≤ tt) c.read_number.ensures
