use Rattle.std.proofs.Common.{subst}
use Rattle.lat_history.specs.Books.{IsHistory}
use Rattle.lat_history.proofs.BookLemmas.{kept_history}
use Rattle.lat_history.proofs.books.Book.lattice.Goals as goal

pub returns-clause-whole : goal.returns-clause-whole
returns-clause-whole c = subst IsHistory c.self.view_is (kept_history c.self.invariant)
