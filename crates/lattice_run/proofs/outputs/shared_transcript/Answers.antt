-- The lines of the play, and the summary of its lattice.
use Rattle.lattice_run.proofs.Transcribed.{fair_is}
use Rattle.lattice_run.proofs.outputs.shared_transcript.Goals as goal

pub returns : goal.returns
returns g c = fair_is _ _ c.in_ok-book.field-0 _ c.in_ok-book.ensures c.in_ok-add_book_summary.ensures
