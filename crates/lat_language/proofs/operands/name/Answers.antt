-- What is declared is read.
use Rattle.lat_language.proofs.ReadWords.{name_read}
use Rattle.lat_language.proofs.operands.name.Goals as goal

pub returns : goal.returns
returns c = name_read c.args.word.now c.declared_bytes.result c.declared_bytes.ensures
