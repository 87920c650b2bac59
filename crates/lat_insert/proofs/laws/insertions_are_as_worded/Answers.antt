use Rattle.lat_insert.proofs.WordedInsertions.{filling_worded, insertion_worded, ruled_pairs_stored, stored_maps_worded, additions_counted}
use Rattle.lat_insert.proofs.laws.insertions_are_as_worded.Goals as goal

pub returns-clause-filling : goal.returns-clause-filling
returns-clause-filling c = filling_worded

pub returns-clause-insertion : goal.returns-clause-insertion
returns-clause-insertion c = insertion_worded

pub returns-clause-pairs : goal.returns-clause-pairs
returns-clause-pairs c = ruled_pairs_stored

pub returns-clause-kept : goal.returns-clause-kept
returns-clause-kept c = stored_maps_worded

pub returns-clause-counted : goal.returns-clause-counted
returns-clause-counted c = additions_counted
