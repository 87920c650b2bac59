-- The dump of the lattice of the book.
use Rattle.lattice_run.proofs.Transcribed.{dump_is}
use Rattle.lattice_run.proofs.outputs.dump.Goals as goal

pub returns : goal.returns
returns g c = dump_is _ _ c.in_ok-book.field-0 c.lattice.result.now _ c.in_ok-book.ensures c.lattice.ensures.value c.in_ok-text.ensures
