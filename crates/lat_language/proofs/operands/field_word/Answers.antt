-- The word is a declared name, or that of an added field, or none.
use Rattle.lat_language.proofs.ReadWords.{field_declared, field_made}
use Rattle.lat_language.proofs.operands.field_word.Goals as goal

pub returns-in-Some : goal.returns-in-Some
returns-in-Some c = field_declared c.args.word.now c.in-Some.name c.in-Some.ensures.0 c.in-Some.ensures.1

pub returns-in-None : goal.returns-in-None
returns-in-None c = field_made c.args.word.now c.made_word.result c.in-None.ensures c.made_word.ensures
