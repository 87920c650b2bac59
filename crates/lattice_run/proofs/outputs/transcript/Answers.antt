-- The lines of the play, and the summary of its lattice.
use Rattle.lattice_run.proofs.Transcribed.{transcript_is}
use Rattle.lattice_run.proofs.outputs.transcript.Goals as goal

pub returns : goal.returns
returns g c = transcript_is _ _ c.in_ok-book.field-0 _ c.in_ok-book.ensures c.in_ok-add_book_summary.ensures
