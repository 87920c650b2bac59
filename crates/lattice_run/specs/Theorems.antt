-- The statements of the laws: what holds of the definitions, whatever the program does. `threads`
-- says whether any order of the sessions' turns is admitted for `share`, or only that of the
-- schedule.
use Rattle.std.specs.Prelude.{◌≡◌, Bool, true, false, ℕ, List, Option}
use Rattle.ff_poly.specs.Polynomial.{Polynomial}
use Rattle.natural_ops.specs.Operations.{IsOpTable}
use Rattle.lat_session.specs.Outcomes.{Operations, operations_of}
use Rattle.lattice_run.specs.declared.status.TheConstants.{DONE, NO_COMMAND, BAD_SCRIPT, READ_FAILED, WRITE_FAILED, NO_MEMORY, BAD_DUMP, NO_WORDS}
use Rattle.lattice_run.specs.declared.tasks.Task.{Task}
use Rattle.lattice_run.specs.Tasks.{Asks}
use Rattle.lattice_run.specs.Answers.{Answers}

-- the statuses, as numbers
abbrev pub StatusNumbers : Type 0
StatusNumbers = (DONE ≡ 0) × (NO_COMMAND ≡ 2) × (BAD_SCRIPT ≡ 3) × (READ_FAILED ≡ 4)
    × (WRITE_FAILED ≡ 5) × (NO_MEMORY ≡ 6) × (BAD_DUMP ≡ 7) × (NO_WORDS ≡ 8)

-- Words ask for one task, or for none.
abbrev pub WordsAsk : Type 0
WordsAsk = (words : List (List ℕ)) → (asked : Option Task) × Asks words asked

-- And for no other.
abbrev pub WordsAskOnce : Type 0
WordsAskOnce = (words : List (List ℕ)) (asked other : Option Task) → Asks words asked
    → Asks words other → asked ≡ other

-- With operations of tables, what words ask for and an input have an answer, its status and its
-- text, whichever orders are admitted.
abbrev pub InputHasAnswer : Type 0
InputHasAnswer = (threads : Bool) (first second third : List Polynomial)
    (words : List (List ℕ)) (asked : Option Task) (input : List ℕ) → IsOpTable first → IsOpTable second
    → IsOpTable third → Asks words asked → (status : ℕ) × (text : List ℕ)
    × Answers threads (operations_of first second third) asked input status text

-- With the order of the schedule alone there is only one.
abbrev pub InputHasOneAnswer : Type 0
InputHasOneAnswer = (first second third : List Polynomial) (words : List (List ℕ))
    (asked : Option Task) (input : List ℕ) (s t : ℕ) (text other : List ℕ) → IsOpTable first
    → IsOpTable second → IsOpTable third → Asks words asked
    → Answers false (operations_of first second third) asked input s text
    → Answers false (operations_of first second third) asked input t other → (s ≡ t) × (text ≡ other)

-- Whatever the operations, they have one status, the same whichever orders are admitted.
abbrev pub InputHasOneStatus : Type 0
InputHasOneStatus = (threads beside : Bool) (operations : Operations) (asked : Option Task)
    (input : List ℕ) (s t : ℕ) (text other : List ℕ)
    → Answers threads operations asked input s text
    → Answers beside operations asked input t other → s ≡ t

-- An answer by the schedule is one where any order is admitted.
abbrev pub AnswerIsOneWithThreads : Type 0
AnswerIsOneWithThreads = (operations : Operations) (asked : Option Task) (input : List ℕ)
    (status : ℕ) (text : List ℕ) → Answers false operations asked input status text
    → Answers true operations asked input status text
