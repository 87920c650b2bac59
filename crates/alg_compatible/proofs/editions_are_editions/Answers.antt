use Rattle.alg_compatible.proofs.Laws.{editions_law}
use Rattle.alg_compatible.proofs.editions_are_editions.Goals as goal

pub returns : goal.returns
returns c = record { both = editions_law }
