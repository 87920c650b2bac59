use Rattle.lat_core.proofs.Openings.{is_edition}
use Rattle.lat_history.proofs.BookLemmas.{kept_none}
use Rattle.lat_history.proofs.books.Book.open.Goals as goal

pub invariant_of-result : goal.invariant_of-result
invariant_of-result c = kept_none _ _ _ _ (is_edition c.args.edition) c.requires c.in_ok-entries.ensures.items
    c.in_ok-lattice.ensures.edition c.in_ok-lattice.ensures.opening
