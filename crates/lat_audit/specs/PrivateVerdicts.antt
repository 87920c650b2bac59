-- The first fault of a text. No public clause cites this module.
--     verdict_with fault         the fault as a verdict
--     ContentFault c fault       the first fault of what a dump holds, or want of memory
--     TextFault text fault       the first fault of a text, or want of memory
use Rattle.std.specs.Prelude.{List, ℕ}
use Rattle.lat_audit.specs.Readings.{Content, Header, IsDump, lattice_of}
use Rattle.lat_audit.specs.Verdicts.{None, IsReducible, IsWrongImage}
use Rattle.lat_audit.specs.PrivateFaults.{FieldFault, MapFault}
use Rattle.lat_audit.specs.PrivateReadings.{Stops}
use Rattle.lat_audit.specs.PrivateRules.{RuleFault}
use Rattle.lat_audit.specs.declared.faults.Fault.{Fault}
use Rattle.lat_audit.specs.declared.faults.Fault.TheVariants as fault
use Rattle.lat_audit.specs.declared.verdicts.AuditVerdict.{AuditVerdict}
use Rattle.lat_audit.specs.declared.verdicts.AuditVerdict.TheVariants as verdict

abbrev pub verdict_with : Fault → AuditVerdict
verdict_with (fault.Text line) = verdict.BadText line
verdict_with (fault.Field i) = verdict.BadField i
verdict_with (fault.Map i j) = verdict.BadMap i j
verdict_with (fault.Rule r i j k) = verdict.BadRule r i j k
verdict_with fault.NoMemory = verdict.NoMemory

-- a field; else a map; else a rule
pub data ContentFault (c : Content) : Fault → Type 0 where
  bad_field : {f : Fault} → FieldFault c.rows f → ContentFault c f
  bad_map : {f : Fault} → None (IsReducible c.rows) → MapFault c.rows c.images f → ContentFault c f
  bad_rule : {f : Fault} → None (IsReducible c.rows) → None (IsWrongImage c)
      → RuleFault (lattice_of c) f → ContentFault c f

-- a line; else what the lines hold
pub data TextFault (text : List ℕ) : Fault → Type 0 where
  bad_line : {f : Fault} → Stops Header 1 text f → TextFault text f
  bad_content : {f : Fault} (c : Content) → IsDump text c → ContentFault c f → TextFault text f
