-- What the program answers to what it is asked for and to its input. `threads` says whether any
-- order of the sessions' turns is admitted for `share`, or only that of the schedule.
--     Final edition operations script                the end of a script that is played
--     IsSummary edition operations script text       its summary alone
--     IsDump edition operations script text          the dump of its lattice
--     IsShared threads operations script text        what is written for `share`
--     IsPlayed threads operations output script text     what is written of a script that is played
--     IsOutput threads operations task input text        what is written for a task that is done
--     IsFault verdict            the verdict is a fault of a dump
--     Answers threads operations asked input status text     the exit status, and what is written
--     rest_of most input          what is left of an input that is read up to a limit
--     IsInput most input old new  what a source gave of its bytes, from `old` to `new`
--     TakesInput most old new     how much is taken at most, whatever the status
use Rattle.std.specs.Prelude.{◌≡◌, Bool, true, false, ℕ, ◌+◌, ◌<◌, ◌≤◌, List, length, drop, Option, Some, None, IfSome, ⊤}
use Rattle.alg_model.specs.Lattices as lattices
use Rattle.alg_model.specs.Lattices.{Lattice, first_edition}
use Rattle.lat_io.specs.Source.{TakesAtMost}
use Rattle.lat_core.specs.SharedRows.{map_count}
use Rattle.lat_core.specs.Histories.{IsAfter}
use Rattle.lat_language.specs.declared.scripts.Script.{Script}
use Rattle.lat_language.specs.Grammar.{Spells, FirstBad}
use Rattle.lat_language.specs.Texts.{usage_text, bad_line_text, too_long_text, summary_text}
use Rattle.lat_gen.specs.Generated.{generated}
use Rattle.lat_audit.specs.Dumps.{dump_text}
use Rattle.lat_audit.specs.Verdicts.{Judges}
use Rattle.lat_audit.specs.VerdictTexts.{verdict_text, dump_too_long_text}
use Rattle.lat_audit.specs.declared.verdict_lines.TheConstants.{MAX_DUMP}
use Rattle.lat_audit.specs.declared.verdicts.AuditVerdict.{AuditVerdict}
use Rattle.lat_audit.specs.declared.verdicts.AuditVerdict.TheVariants.{Good, NoMemory}
use Rattle.lat_session.specs.Outcomes.{Operations}
use Rattle.lat_playing.specs.Worlds.{World, IsSolo}
use Rattle.lat_playing.specs.Transcripts.{IsTranscript, IsFair}
use Rattle.lattice_run.specs.declared.run.TheConstants.{MAX_INPUT}
use Rattle.lattice_run.specs.declared.status.TheConstants.{DONE, NO_COMMAND, BAD_SCRIPT, BAD_DUMP}
use Rattle.lattice_run.specs.declared.tasks.Task.{Task}
use Rattle.lattice_run.specs.declared.tasks.Output.{Output}
use Rattle.lattice_run.specs.declared.tasks.Output.TheVariants.{Transcript, SharedTranscript, Dump}
use Rattle.lattice_run.specs.declared.tasks.Task.TheVariants.{Play, Audit, Gen}
use Rattle.lattice_run.specs.Tasks.{PlaysInput, limit}

-- A script that is played by its schedule: its world, and the lattice after all changes.
pub record Final (edition : lattices.Edition) (operations : Operations) (script : Script)
    : Type 0 where
  pub world : World
  pub solo : IsSolo edition operations script world
  pub lattice : Lattice
  pub after : IsAfter edition world.history lattice

-- The counts are those of this lattice, and of the changes.
abbrev pub IsSummary : lattices.Edition → Operations → Script → List ℕ → Type 0
IsSummary edition operations script text = (final : Final edition operations script)
    × (text ≡ summary_text (length final.lattice.rows) (map_count final.lattice)
    (length final.world.history))

-- The dump of this lattice.
abbrev pub IsDump : lattices.Edition → Operations → Script → List ℕ → Type 0
IsDump edition operations script text = (final : Final edition operations script)
    × (text ≡ dump_text final.lattice)

-- The transcript of the sessions in some order of their turns, or by the schedule.
abbrev pub IsShared : Bool → Operations → Script → List ℕ → Type 0
IsShared true operations script text = IsFair first_edition operations script text
IsShared false operations script text = IsTranscript first_edition operations script text

-- What is written of a script that is played.
abbrev pub IsPlayed : Bool → Operations → Output → Script → List ℕ → Type 0
IsPlayed threads operations Transcript script text =
    IsTranscript first_edition operations script text
IsPlayed threads operations SharedTranscript script text =
    IsShared threads operations script text
IsPlayed threads operations Dump script text = IsDump first_edition operations script text

-- Of the script that the input spells; that the input is the dump of a lattice; or the summary
-- alone of a generated script.
abbrev pub IsOutput : Bool → Operations → Task → List ℕ → List ℕ → Type 0
IsOutput threads operations (Play output) input text = (script : Script) × Spells input script
    × IsPlayed threads operations output script text
IsOutput threads operations Audit input text = (L : Lattice) × Judges input (Good L)
    × (text ≡ verdict_text (Good L))
IsOutput threads operations (Gen seed fields embeds) input text =
    IsSummary first_edition operations (generated seed fields embeds) text

-- There is a fault where the input is no dump of a lattice, and memory wasn't refused.
abbrev pub IsFault : AuditVerdict → Type 0
IsFault (Good L) = ⊥
IsFault NoMemory = ⊥
IsFault _ = ⊤

-- One constructor for each kind of answer.
pub data Answers (threads : Bool) (operations : Operations) (asked : Option Task)
    (input : List ℕ) : ℕ → List ℕ → Type 0 where
  usage : asked ≡ None → Answers threads operations asked input NO_COMMAND usage_text
  too_long : PlaysInput asked → MAX_INPUT < length input
      → Answers threads operations asked input BAD_SCRIPT (too_long_text MAX_INPUT)
  bad_line : PlaysInput asked → length input ≤ MAX_INPUT → (line kind : ℕ)
      → FirstBad input line kind
      → Answers threads operations asked input BAD_SCRIPT (bad_line_text line kind)
  dump_too_long : asked ≡ Some Audit → MAX_DUMP < length input
      → Answers threads operations asked input BAD_SCRIPT (dump_too_long_text MAX_DUMP)
  bad_dump : asked ≡ Some Audit → length input ≤ MAX_DUMP → (verdict : AuditVerdict)
      → Judges input verdict → IsFault verdict
      → Answers threads operations asked input BAD_DUMP (verdict_text verdict)
  output : (task : Task) (text : List ℕ) → asked ≡ Some task
      → IfSome (limit asked) (λ most. length input ≤ most)
      → IsOutput threads operations task input text
      → Answers threads operations asked input DONE text

-- Where there is no limit nothing is read, and else at most the limit and one byte more.
abbrev pub rest_of : Option ℕ → List ℕ → List ℕ
rest_of None input = input
rest_of (Some most) input = drop (most + 1) input

-- Where the source tells its bytes they are the input.
abbrev pub IsInput : Option ℕ → List ℕ → Option (List ℕ) → Option (List ℕ) → Type 0
IsInput most input old new =
    IfSome old (λ left. (left ≡ input) × (new ≡ Some (rest_of most input)))

-- Nothing is taken where nothing is read, and else at most the limit and one byte more.
abbrev pub TakesInput : Option ℕ → Option (List ℕ) → Option (List ℕ) → Type 0
TakesInput None old new = new ≡ old
TakesInput (Some most) old new = TakesAtMost old new (most + 1)
