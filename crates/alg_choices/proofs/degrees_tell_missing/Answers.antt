use Rattle.alg_choices.proofs.Laws.{missing_law}
use Rattle.alg_choices.proofs.degrees_tell_missing.Goals as goal

pub returns : goal.returns
returns c = record { missing = missing_law }
