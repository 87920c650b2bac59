use Rattle.alg_compatible.proofs.Laws.{stored_pair_law}
use Rattle.alg_compatible.proofs.stored_pair_changes_nothing.Goals as goal

pub returns : goal.returns
returns c = record { nothing = stored_pair_law }
