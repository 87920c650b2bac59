use Rattle.ff_matrix.proofs.RowPlaces.{zeros_at}
use Rattle.ff_matrix.proofs.places.zero_row.Goals as goal

pub returns-clause-zeros : goal.returns-clause-zeros
returns-clause-zeros g c k = zeros_at g.row.W k
