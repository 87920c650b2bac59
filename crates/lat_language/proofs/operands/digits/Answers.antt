-- What is read is the list.
use Rattle.lat_language.proofs.ReadWords.{digits_read}
use Rattle.lat_language.proofs.operands.digits.Goals as goal

pub returns : goal.returns
returns c = digits_read c.args.word.now c.read_digits.result c.read_digits.ensures
