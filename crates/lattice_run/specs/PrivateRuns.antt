-- How the parts of the top call leave. No public clause cites this module.
use Rattle.std.specs.Prelude.{◌≡◌, ◌≢◌, ◌⊎◌, Bool, false, ℕ, ◌≤◌, List, ◌++◌, length, Option, Some, None, IfSome, Result, MatchResult}
use Rattle.std.specs.Io.KnownBytes.{Appends}
use Rattle.alg_model.specs.Lattices.{Lattice}
use Rattle.lat_io.specs.Faults.{one_more}
use Rattle.lat_io.specs.Sink.{AppendsPart}
use Rattle.lat_io.specs.Source.{ReadWhole, TakesSome}
use Rattle.lat_io.specs.Streams.{Stream}
use Rattle.lat_core.specs.SharedRows.{map_count}
use Rattle.lat_core.specs.Histories.{IsAfter}
use Rattle.lat_language.specs.declared.scripts.Script.{Script}
use Rattle.lat_language.specs.Grammar.{Spells, LeadsToScript}
use Rattle.lat_language.specs.Texts.{summary_text}
use Rattle.lat_history.specs.Books.{History}
use Rattle.lat_audit.specs.VerdictTexts.{verdict_text}
use Rattle.lat_audit.specs.declared.verdicts.AuditVerdict.{AuditVerdict}
use Rattle.lat_audit.specs.declared.verdicts.AuditVerdict.TheVariants.{Good, NoMemory}
use Rattle.lat_session.specs.Outcomes.{Operations}
use Rattle.lattice_run.specs.declared.run.TheConstants.{MAX_INPUT}
use Rattle.lattice_run.specs.declared.status.TheConstants.{DONE, READ_FAILED, WRITE_FAILED, NO_MEMORY, BAD_DUMP}
use Rattle.lattice_run.specs.declared.tasks.Task.{Task}
use Rattle.lattice_run.specs.declared.tasks.Output.{Output}
use Rattle.lattice_run.specs.declared.tasks.Task.TheVariants.{Play}
use Rattle.lattice_run.specs.Tasks.{limit}
use Rattle.lattice_run.specs.Answers.{IsFault, Answers, IsInput}

-- the summary of the lattice after a history was appended
abbrev pub AddsSummary : History → List ℕ → List ℕ → Type 0
AddsSummary book old new = (L : Lattice) × IsAfter book.edition book.entries L
    × (new ≡ old ++ summary_text (length L.rows) (map_count L) (length book.entries))

-- the text was appended, or a write failed on the way
pub data Delivers (status : ℕ) (text : List ℕ) (sink sink' : Stream) (result : ℕ) : Type 0 where
  whole : result ≡ status → sink'.faults ≡ sink.faults → Appends sink.bytes sink'.bytes text
      → Delivers status text sink sink' result
  part : result ≡ WRITE_FAILED → sink'.faults ≡ one_more sink.faults
      → AppendsPart sink.bytes sink'.bytes text → Delivers status text sink sink' result

-- the text of an output was delivered, or there was none for want of memory
abbrev pub DeliversOutput : {V E : Type 0} → (V → List ℕ) → Result V E → Stream → Stream → ℕ → Type 0
DeliversOutput items output sink sink' result =
    MatchResult output (λ text. Delivers DONE (items text) sink sink' result)
    (λ _. (result ≡ NO_MEMORY) × (sink' ≡ sink))

-- what needs memory after it was read: what lines say, and a script to be played
abbrev pub NeedsMemory : List ℕ → Type 0
NeedsMemory input = LeadsToScript input ⊎ ((script : Script) × Spells input script)

-- The answer to an input that spells no script was delivered, or there was no memory to read it.
pub data AnswersInput (operations : Operations) (wanted : Output) (input : List ℕ)
    (sink sink' : Stream) (result : ℕ) : Type 0 where
  answered : (status : ℕ) (text : List ℕ)
      → Answers false operations (Some (Play wanted)) input status text
      → Delivers status text sink sink' result
      → AnswersInput operations wanted input sink sink' result
  unanswered : NeedsMemory input → result ≡ NO_MEMORY → sink' ≡ sink
      → AnswersInput operations wanted input sink sink' result

-- The line of a verdict was delivered, or memory was refused.
pub data DeliversVerdict (verdict : AuditVerdict) (sink sink' : Stream) (result : ℕ) : Type 0 where
  good : (L : Lattice) → verdict ≡ Good L → Delivers DONE (verdict_text verdict) sink sink' result
      → DeliversVerdict verdict sink sink' result
  fault : IsFault verdict → Delivers BAD_DUMP (verdict_text verdict) sink sink' result
      → DeliversVerdict verdict sink sink' result
  refused : verdict ≡ NoMemory → result ≡ NO_MEMORY → sink' ≡ sink
      → DeliversVerdict verdict sink sink' result

-- The source was read to its end, and its bytes spell the script.
pub record ReadsScript (script : Script) (source source' : Stream) : Type 0 where
  pub input : List ℕ
  pub fits : length input ≤ MAX_INPUT
  pub whole : ReadWhole source.bytes source'.bytes input
  pub spelled : Spells input script
  pub unfailed : source'.faults ≡ source.faults

-- An answer was delivered, a read failed, or there was no memory, for a task and, where it reads,
-- some bytes.
pub data Ran (threads : Bool) (operations : Operations) (asked : Option Task)
    (source source' sink sink' : Stream) (result : ℕ) : Type 0 where
  delivered : (input : List ℕ) (status : ℕ) (text : List ℕ) → source'.faults ≡ source.faults
      → IsInput (limit asked) input source.bytes source'.bytes
      → Answers threads operations asked input status text → Delivers status text sink sink' result
      → Ran threads operations asked source source' sink sink' result
  unread : limit asked ≢ None → result ≡ READ_FAILED → source'.faults ≡ one_more source.faults
      → sink' ≡ sink → Ran threads operations asked source source' sink sink' result
  no_memory : asked ≢ None → IfSome (limit asked) (TakesSome source.bytes source'.bytes)
      → result ≡ NO_MEMORY → source'.faults ≡ source.faults → sink' ≡ sink
      → Ran threads operations asked source source' sink sink' result
