-- The operations are those of the tables.
use Rattle.lattice_run.proofs.Transcribed.{same_operations}
use Rattle.lattice_run.proofs.entry.run_with.Goals as goal

pub returns : goal.returns
returns g c = same_operations _ _ _ _ _ _ _ _ _ _ _ _ _ c.new.ensures c.new-2.ensures c.new-3.ensures c.run_plain.ensures
