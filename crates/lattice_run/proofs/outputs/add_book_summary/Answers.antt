-- The counts are those of the lattice of the book.
use Rattle.lattice_run.proofs.Transcribed.{adds_summary}
use Rattle.lattice_run.proofs.outputs.add_book_summary.Goals as goal

pub returns : goal.returns
returns c = adds_summary c.args.book.now _ _ _ _ _ _ c.lattice-lattice.ensures.value c.fields.ensures.value c.maps.ensures c.length.ensures.value c.in_ok-add_summary.ensures.ok
