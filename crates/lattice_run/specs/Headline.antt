-- The headline: what a run of the program does, from its words, its source and its sink, and the
-- three operations that it was given; `threads` says whether any order of the sessions' turns is
-- admitted for `share`, or only that of the schedule. A source and a sink are their bytes, where
-- they tell them, and their counts of faults (`Stream`); with a prime they are those after the run.
use Rattle.std.specs.Prelude.{◌≡◌, ◌≢◌, ◌⊎◌, Bool, ℕ, List, [], ◌∷◌, Contains, Option, Some, None, IfSome}
use Rattle.std.specs.Io.KnownBytes.{Keeps, Appends}
use Rattle.lat_io.specs.Faults.{one_more, Rose}
use Rattle.lat_io.specs.Sink.{AppendsPart}
use Rattle.lat_io.specs.Source.{ReadWhole, TakesSome}
use Rattle.lat_io.specs.Streams.{Stream}
use Rattle.lat_session.specs.Outcomes.{Operations}
use Rattle.lattice_run.specs.declared.status.TheConstants.{DONE, NO_COMMAND, BAD_SCRIPT, READ_FAILED, WRITE_FAILED, NO_MEMORY, BAD_DUMP}
use Rattle.lattice_run.specs.declared.tasks.Task.{Task}
use Rattle.lattice_run.specs.Tasks.{Asks, limit}
use Rattle.lattice_run.specs.Answers.{IsOutput, Answers, IsInput, TakesInput}

pub record Headline (threads : Bool) (operations : Operations) (words : List (List ℕ))
    (source source' sink sink' : Stream) (status : ℕ) : Type 0 where
  -- What the words ask for: the one task that they name, or none.
  pub asked : Option Task
  pub asks : Asks words asked
  -- Status 0: a task is asked for; where it reads, the source was read to its end; and what is
  -- written for the task was appended.
  pub done : status ≡ DONE → (task : Task) × (input : List ℕ) × (text : List ℕ)
      × (asked ≡ Some task) × IfSome (limit asked) (λ most.
      ReadWhole source.bytes source'.bytes input) × IsOutput threads operations task input text
      × Appends sink.bytes sink'.bytes text
  -- Statuses 0, 2, 3 and 7: the answer that is due, and its text was appended.
  pub answered : Contains (DONE ∷ NO_COMMAND ∷ BAD_SCRIPT ∷ BAD_DUMP ∷ []) status
      → (input : List ℕ) × (text : List ℕ)
      × IsInput (limit asked) input source.bytes source'.bytes
      × Answers threads operations asked input status text × Appends sink.bytes sink'.bytes text
  -- Status 4: what is asked for reads, a read failed, and nothing was appended.
  pub read_failed : status ≡ READ_FAILED → (limit asked ≢ None)
      × (source'.faults ≡ one_more source.faults) × Keeps sink.bytes sink'.bytes
  -- Status 5: a write failed, and the beginning of the text of the answer was appended, and not all
  -- of it.
  pub write_failed : status ≡ WRITE_FAILED → (sink'.faults ≡ one_more sink.faults)
      × (input : List ℕ) × (answer : ℕ) × (text : List ℕ)
      × IsInput (limit asked) input source.bytes source'.bytes
      × Answers threads operations asked input answer text × AppendsPart sink.bytes sink'.bytes text
  -- Status 6: a task is asked for; where it reads, at least one byte of the source was taken, and
  -- at most the limit; and nothing was appended.
  pub no_memory : status ≡ NO_MEMORY → (asked ≢ None)
      × IfSome (limit asked) (TakesSome source.bytes source'.bytes)
      × Keeps sink.bytes sink'.bytes
  -- There is no other status.
  pub statuses : Contains
      (DONE ∷ NO_COMMAND ∷ BAD_SCRIPT ∷ READ_FAILED ∷ WRITE_FAILED ∷ NO_MEMORY ∷ BAD_DUMP ∷ [])
      status
  -- A read that failed is answered by 4, and a write that failed by 5, unless its count of faults
  -- is at the last value.
  pub reads : status ≢ READ_FAILED → source'.faults ≡ source.faults
  pub writes : status ≢ WRITE_FAILED → sink'.faults ≡ sink.faults
  -- Whatever the status, nothing is taken where what is asked for reads nothing, and else at most
  -- the limit and one byte.
  pub taken : TakesInput (limit asked) source.bytes source'.bytes
  -- Where the count of failed writes didn't rise, words that name no task are answered by 2.
  pub other_words : asked ≡ None → ¬ Rose sink.faults sink'.faults → status ≡ NO_COMMAND
  -- Where no count of faults rose, and the source tells its bytes or none are read, the status is
  -- that of the answer that is due, but for memory.
  pub complete : ¬ Rose source.faults source'.faults → ¬ Rose sink.faults sink'.faults
      → (input : List ℕ) (answer : ℕ) (text : List ℕ)
      → (source.bytes ≡ Some input) ⊎ (limit asked ≡ None)
      → Answers threads operations asked input answer text → (status ≡ answer) ⊎ (status ≡ NO_MEMORY)
