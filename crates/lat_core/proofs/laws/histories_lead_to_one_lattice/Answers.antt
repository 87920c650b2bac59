use Rattle.lat_core.proofs.HistoryLaws.{history_one, history_keeps}
use Rattle.lat_core.proofs.laws.histories_lead_to_one_lattice.Goals as goal

pub returns-clause-determined : goal.returns-clause-determined
returns-clause-determined c = history_one

pub returns-clause-compatible : goal.returns-clause-compatible
returns-clause-compatible c = history_keeps
