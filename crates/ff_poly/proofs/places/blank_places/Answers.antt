use Rattle.std.proofs.Common.{◌<◌}
use Rattle.std.proofs.lemmas.List.Elements.{All-replicate}
use Rattle.ff_poly.specs.declared.TheConstants.{MAX_POLY}
use Rattle.ff_poly.proofs.ListPlaces.{blank_at}
use Rattle.ff_poly.proofs.places.blank_places.Goals as goal

pub returns-clause-blank : goal.returns-clause-blank
returns-clause-blank c k = blank_at MAX_POLY k

pub returns-clause-residues : goal.returns-clause-residues
returns-clause-residues c p positive = All-replicate (λ x. x < p) MAX_POLY 0 positive
