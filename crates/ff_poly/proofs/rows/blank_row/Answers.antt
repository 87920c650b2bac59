use Rattle.std.proofs.Common.{◌<◌}
use Rattle.std.proofs.lemmas.List.Elements.{All-replicate}
use Rattle.ff_poly.proofs.ListPlaces.{blank_at}
use Rattle.ff_poly.proofs.rows.blank_row.Goals as goal

pub returns-clause-blank : goal.returns-clause-blank
returns-clause-blank g c k = blank_at g.row.W k

pub returns-clause-residues : goal.returns-clause-residues
returns-clause-residues g c p positive = All-replicate (λ x. x < p) g.row.W 0 positive
