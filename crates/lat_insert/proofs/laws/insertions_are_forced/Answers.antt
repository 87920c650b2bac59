use Rattle.lat_insert.proofs.ForcedAdditions.{made_fields_forced, linked_maps_forced}
use Rattle.lat_insert.proofs.laws.insertions_are_forced.Goals as goal

pub returns-clause-fields : goal.returns-clause-fields
returns-clause-fields c = made_fields_forced

pub returns-clause-maps : goal.returns-clause-maps
returns-clause-maps c = linked_maps_forced
