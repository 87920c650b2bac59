-- What the words of a run ask for.
--     word_of output       the word that asks for an output of a script
--     words_of task        the words that name a task
--     IsProper task        the numbers of a task are within their limits
--     IsTask words task    the words name the task
--     Asks words asked     what the words ask for: the task that they name, or none
--     PlaysInput asked     the input is a script, which is played
--     limit asked          the most bytes that the input may have; None where nothing is read
use Rattle.std.specs.Prelude.{◌≡◌, ℕ, ◌^◌, ◌<◌, List, [], ◌∷◌, codes, decimal, Option, Some, None, ⊤}
use Rattle.lat_gen.specs.Theorems.{AreSizes}
use Rattle.lat_audit.specs.declared.verdict_lines.TheConstants.{MAX_DUMP}
use Rattle.lattice_run.specs.declared.run.TheConstants.{MAX_INPUT}
use Rattle.lattice_run.specs.declared.tasks.Task.{Task}
use Rattle.lattice_run.specs.declared.tasks.Output.{Output}
use Rattle.lattice_run.specs.declared.tasks.Output.TheVariants.{Transcript, SharedTranscript, Dump}
use Rattle.lattice_run.specs.declared.tasks.Task.TheVariants.{Play, Audit, Gen}

abbrev pub word_of : Output → List ℕ
word_of Transcript = codes "solo"
word_of SharedTranscript = codes "share"
word_of Dump = codes "dump"

-- Numbers are written in decimal, without zeros before them.
abbrev pub words_of : Task → List (List ℕ)
words_of (Play output) = word_of output ∷ []
words_of Audit = codes "audit" ∷ []
words_of (Gen seed fields embeds) =
    codes "gen" ∷ decimal seed ∷ decimal fields ∷ decimal embeds ∷ []

-- A seed has 64 bits; there are as many fields and embeddings as a generated script may have.
abbrev pub IsProper : Task → Type 0
IsProper (Play output) = ⊤
IsProper Audit = ⊤
IsProper (Gen seed fields embeds) = (seed < 2 ^ 64) × AreSizes fields embeds

abbrev pub IsTask : List (List ℕ) → Task → Type 0
IsTask words task = (words ≡ words_of task) × IsProper task

-- Nothing is asked for where the words name no task.
abbrev pub Asks : List (List ℕ) → Option Task → Type 0
Asks words None = (task : Task) → ¬ IsTask words task
Asks words (Some task) = IsTask words task

abbrev pub PlaysInput : Option Task → Type 0
PlaysInput (Some (Play output)) = ⊤
PlaysInput _ = ⊥

-- For other words, and for a script that is generated, nothing is read.
abbrev pub limit : Option Task → Option ℕ
limit (Some (Play output)) = Some MAX_INPUT
limit (Some Audit) = Some MAX_DUMP
limit _ = None
