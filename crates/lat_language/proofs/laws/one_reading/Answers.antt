-- A text has one reading.
use Rattle.lat_language.proofs.SomeMeaning.{reading_exists}
use Rattle.lat_language.proofs.OneMeaning.{script_unique, fault_unique, never_both}
use Rattle.lat_language.proofs.laws.one_reading.Goals as goal

pub returns-clause-scripts : goal.returns-clause-scripts
returns-clause-scripts c = script_unique

pub returns-clause-faults : goal.returns-clause-faults
returns-clause-faults c = fault_unique

pub returns-clause-never_both : goal.returns-clause-never_both
returns-clause-never_both c = never_both

pub returns-clause-some : goal.returns-clause-some
returns-clause-some c = reading_exists
