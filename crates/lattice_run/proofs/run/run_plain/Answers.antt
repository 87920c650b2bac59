-- What the run's way out says.
use Rattle.lattice_run.proofs.Statuses.{headline}
use Rattle.lattice_run.proofs.run.run_plain.Goals as goal

pub returns : goal.returns
returns g c = headline _ _ _ _ _ _ _ _ _ c.task_of.ensures c.run.ensures.ran c.run.ensures.taken
