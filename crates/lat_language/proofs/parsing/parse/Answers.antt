-- A text has one reading, and that is what was read.
use Rattle.lat_language.proofs.ParsedLines.{script_read, fault_read, memory_read}
use Rattle.lat_language.proofs.parsing.parse.Goals as goal

pub returns-clause-every_script : goal.returns-clause-every_script
returns-clause-every_script c = script_read c.args.bytes.now c.read.result c.read.ensures

pub returns-clause-every_fault : goal.returns-clause-every_fault
returns-clause-every_fault c = fault_read c.args.bytes.now c.read.result c.read.ensures

pub returns-clause-memory : goal.returns-clause-memory
returns-clause-memory c = memory_read c.args.bytes.now c.read.result c.read.ensures
