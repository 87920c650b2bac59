-- The headline, from the way that a run leaves.
use Rattle.std.proofs.Common.{◌≡◌, ◌≢◌, Bool, ℕ, zero, suc, List, [], ◌∷◌, length, ◌≤◌, ◌+◌, refl, ◌∙◌, sym, ap, subst, arith, inl, inr, lit<, Option, Some, None}
use Rattle.std.specs.Prelude.{◌⊎◌, Contains, IfSome}
use Rattle.std.specs.Io.KnownBytes.{Keeps, Appends}
use Rattle.std.proofs.KnownBytes.{Keeps-refl}
use Rattle.lat_io.specs.Faults.{one_more, Rose}
use Rattle.lat_io.proofs.Counts.{one_more_rose}
use Rattle.lat_io.specs.Sink.{AppendsPart}
use Rattle.lat_io.specs.Source.{ReadWhole, TakesSome}
use Rattle.lat_io.specs.Streams.{Stream}
use Rattle.lat_session.specs.Outcomes.{Operations}
use Rattle.lattice_run.specs.declared.status.TheConstants.{DONE, NO_COMMAND, BAD_SCRIPT, READ_FAILED, WRITE_FAILED, NO_MEMORY, BAD_DUMP}
use Rattle.lattice_run.specs.declared.tasks.Task.{Task}
use Rattle.lattice_run.specs.Tasks.{Asks, limit}
use Rattle.lattice_run.specs.Answers.{IsOutput, Answers, IsInput, TakesInput}
use Rattle.lattice_run.specs.Headline.{Headline}
use Rattle.lattice_run.specs.Answers.Answers.{usage, too_long, bad_line, dump_too_long, bad_dump, output}
use Rattle.lattice_run.specs.PrivateRuns.{Ran}
use Rattle.lattice_run.specs.PrivateRuns.Ran.{delivered, unread, no_memory}
use Rattle.lattice_run.specs.PrivateRuns.Delivers.{whole, part}
use Rattle.lattice_run.proofs.Determined.{status_unique, unread_answer}
use Rattle.lattice_run.proofs.Running.{nothing_past}

-- ---- the statuses of answers
Listed : ℕ → Type 0
Listed r = Contains (DONE ∷ NO_COMMAND ∷ BAD_SCRIPT ∷ READ_FAILED ∷ WRITE_FAILED ∷ NO_MEMORY ∷ BAD_DUMP ∷ []) r

OfAnswer : ℕ → Type 0
OfAnswer r = Contains (DONE ∷ NO_COMMAND ∷ BAD_SCRIPT ∷ BAD_DUMP ∷ []) r

answer_status : {threads : Bool} {operations : Operations} {asked : Option Task} {input : List ℕ} {status : ℕ} {text : List ℕ}
    → Answers threads operations asked input status text → OfAnswer status
unfolding OfAnswer
answer_status (usage e) = (1, lit< tt, refl)
answer_status (too_long p l) = (2, lit< tt, refl)
answer_status (bad_line p f line kind b) = (2, lit< tt, refl)
answer_status (dump_too_long a l) = (2, lit< tt, refl)
answer_status (bad_dump a f v j w) = (3, lit< tt, refl)
answer_status (output task text is f o) = (0, lit< tt, refl)

answer_listed : (r : ℕ) → OfAnswer r → Listed r
unfolding OfAnswer Listed
answer_listed r (zero, within, at) = (0, lit< tt, at)
answer_listed r (suc zero, within, at) = (1, lit< tt, at)
answer_listed r (suc (suc zero), within, at) = (2, lit< tt, at)
answer_listed r (suc (suc (suc zero)), within, at) = (6, lit< tt, at)
answer_listed r (suc (suc (suc (suc k))), within, at) = absurd (omega (arith, within))

-- none of them is that of a failure
not_failure : (r : ℕ) → OfAnswer r → READ_FAILED ≤ r → r ≤ NO_MEMORY → ⊥
unfolding OfAnswer
not_failure r (zero, within, at) l h = let e : DONE ≡ r = at in omega arith
not_failure r (suc zero, within, at) l h = let e : NO_COMMAND ≡ r = at in omega arith
not_failure r (suc (suc zero), within, at) l h = let e : BAD_SCRIPT ≡ r = at in omega arith
not_failure r (suc (suc (suc zero)), within, at) l h = let e : BAD_DUMP ≡ r = at in omega arith
not_failure r (suc (suc (suc (suc k))), within, at) l h = absurd (omega (arith, within))

-- ---- what is known of the input
whole_read : (most : Option ℕ) (input : List ℕ) (left left' : Option (List ℕ))
    → IfSome most (λ m. length input ≤ m) → IsInput most input left left'
    → IfSome most (λ m. ReadWhole left left' input)
whole_read None input left left' fits i = tt
whole_read (Some m) input None left' fits i = tt
whole_read (Some m) input (Some bytes) left' fits i =
    (sym i.0, i.1 ∙ ap Some (nothing_past input (m + 1) (omega (arith, fits))))

the_input : (most : Option ℕ) (input bytes : List ℕ) (left left' : Option (List ℕ))
    → left ≡ Some bytes → IsInput most input left left' → input ≡ bytes
the_input most input bytes None left' e i = cc
the_input most input bytes (Some xs) left' e i = let k : xs ≡ bytes = cc in sym i.0 ∙ k

kept : (sink sink' : Stream) → sink' ≡ sink → Keeps sink.bytes sink'.bytes
kept sink sink' e = subst (λ s. Keeps sink.bytes s.bytes) (sym e) (Keeps-refl sink.bytes)

-- ---- a run, by the way that it leaves
module _ (threads : Bool) (operations : Operations) (words : List (List ℕ)) (asked : Option Task) (source source' sink sink' : Stream) (result : ℕ) where
  -- what status 0 says
  Done : Type 0
  Done = (task : Task) × (input : List ℕ) × (text : List ℕ) × (asked ≡ Some task)
      × IfSome (limit asked) (λ most. ReadWhole source.bytes source'.bytes input)
      × IsOutput threads operations task input text × Appends sink.bytes sink'.bytes text

  -- what statuses 0, 2, 3 and 7 say
  Answered : ℕ → Type 0
  Answered status = (input : List ℕ) × (text : List ℕ)
      × IsInput (limit asked) input source.bytes source'.bytes
      × Answers threads operations asked input status text × Appends sink.bytes sink'.bytes text

  -- what status 4 says
  ReadFailed : Type 0
  ReadFailed = (limit asked ≢ None) × (source'.faults ≡ one_more source.faults)
      × Keeps sink.bytes sink'.bytes

  -- what status 6 says
  MemoryRefused : Type 0
  MemoryRefused = (asked ≢ None) × IfSome (limit asked) (TakesSome source.bytes source'.bytes)
      × Keeps sink.bytes sink'.bytes

  -- what status 5 says
  WriteFailed : Type 0
  WriteFailed = (sink'.faults ≡ one_more sink.faults)
      × (input : List ℕ) × (answer : ℕ) × (text : List ℕ)
      × IsInput (limit asked) input source.bytes source'.bytes
      × Answers threads operations asked input answer text × AppendsPart sink.bytes sink'.bytes text

  done_answer : {input : List ℕ} {status : ℕ} {text : List ℕ}
      → IsInput (limit asked) input source.bytes source'.bytes → Answers threads operations asked input status text
      → status ≡ DONE → Appends sink.bytes sink'.bytes text → Done
  unfolding Done
  done_answer i (usage none) e h = absurd (omega arith)
  done_answer i (too_long p l) e h = absurd (omega arith)
  done_answer i (bad_line p f line kind b) e h = absurd (omega arith)
  done_answer i (dump_too_long a l) e h = absurd (omega arith)
  done_answer i (bad_dump a f v j w) e h = absurd (omega arith)
  done_answer {input = input} i (output task text is f o) e h =
      (task, input, text, is, whole_read (limit asked) input source.bytes source'.bytes f i, o, h)

  done : Ran threads operations asked source source' sink sink' result → result ≡ DONE → Done
  done (delivered input status text u i a (whole e w h)) z = done_answer i a (sym e ∙ z) h
  done (delivered input status text u i a (part e w h)) z = absurd (omega arith)
  done (unread reads e r k) z = absurd (omega arith)
  done (no_memory named t e r k) z = absurd (omega arith)

  answered : Ran threads operations asked source source' sink sink' result → OfAnswer result → Answered result
  unfolding Answered
  answered (delivered input status text u i a (whole e w h)) of =
      (input, text, i, subst (λ s. Answers threads operations asked input s text) (sym e) a, h)
  answered (delivered input status text u i a (part e w h)) of = absurd (not_failure result of (omega arith) (omega arith))
  answered (unread reads e r k) of = absurd (not_failure result of (omega arith) (omega arith))
  answered (no_memory named t e r k) of = absurd (not_failure result of (omega arith) (omega arith))

  -- what was delivered whole has the status of an answer
  not_answered : {input : List ℕ} {status : ℕ} {text : List ℕ} → Answers threads operations asked input status text
      → result ≡ status → READ_FAILED ≤ result → result ≤ NO_MEMORY → ⊥
  not_answered a e l h = not_failure result (subst OfAnswer (sym e) (answer_status a)) l h

  read_failed : Ran threads operations asked source source' sink sink' result → result ≡ READ_FAILED → ReadFailed
  unfolding ReadFailed
  read_failed (delivered input status text u i a (whole e w h)) z = absurd (not_answered a e (omega arith) (omega arith))
  read_failed (delivered input status text u i a (part e w h)) z = absurd (omega arith)
  read_failed (unread reads e r k) z = (reads, r, kept sink sink' k)
  read_failed (no_memory named t e r k) z = absurd (omega arith)

  write_failed : Ran threads operations asked source source' sink sink' result → result ≡ WRITE_FAILED → WriteFailed
  unfolding WriteFailed
  write_failed (delivered input status text u i a (whole e w h)) z = absurd (not_answered a e (omega arith) (omega arith))
  write_failed (delivered input status text u i a (part e w h)) z = (w, input, status, text, i, a, h)
  write_failed (unread reads e r k) z = absurd (omega arith)
  write_failed (no_memory named t e r k) z = absurd (omega arith)

  memory_refused : Ran threads operations asked source source' sink sink' result → result ≡ NO_MEMORY → MemoryRefused
  unfolding MemoryRefused
  memory_refused (delivered input status text u i a (whole e w h)) z = absurd (not_answered a e (omega arith) (omega arith))
  memory_refused (delivered input status text u i a (part e w h)) z = absurd (omega arith)
  memory_refused (unread reads e r k) z = absurd (omega arith)
  memory_refused (no_memory named t e r k) z = (named, t, kept sink sink' k)

  statuses : Ran threads operations asked source source' sink sink' result → Listed result
  unfolding Listed
  statuses (delivered input status text u i a (whole e w h)) =
      answer_listed result (subst OfAnswer (sym e) (answer_status a))
  statuses (delivered input status text u i a (part e w h)) = (4, lit< tt, sym e)
  statuses (unread reads e r k) = (3, lit< tt, sym e)
  statuses (no_memory named t e r k) = (5, lit< tt, sym e)

  reads_counted : Ran threads operations asked source source' sink sink' result → result ≢ READ_FAILED
      → source'.faults ≡ source.faults
  reads_counted (delivered input status text u i a d) n = u
  reads_counted (unread reads e r k) n = absurd (n e)
  reads_counted (no_memory named t e r k) n = r

  writes_counted : Ran threads operations asked source source' sink sink' result → result ≢ WRITE_FAILED
      → sink'.faults ≡ sink.faults
  writes_counted (delivered input status text u i a (whole e w h)) n = w
  writes_counted (delivered input status text u i a (part e w h)) n = absurd (n e)
  writes_counted (unread reads e r k) n = ap (λ s. s.faults) k
  writes_counted (no_memory named t e r k) n = ap (λ s. s.faults) k

  other_words : Ran threads operations asked source source' sink sink' result → asked ≡ None
      → (Rose sink.faults sink'.faults → ⊥) → result ≡ NO_COMMAND
  other_words (delivered input status text u i a (whole e w h)) none r =
      e ∙ status_unique {beside = threads} a (usage none)
  other_words (delivered input status text u i a (part e w h)) none r = absurd (r (one_more_rose sink.faults sink'.faults w))
  other_words (unread reads e f k) none r = absurd (reads (ap limit none))
  other_words (no_memory named t e f k) none r = absurd (named none)

  -- the input is that of the source, or doesn't count
  due : (input bytes text : List ℕ) (s : ℕ) → (source.bytes ≡ Some bytes) ⊎ (limit asked ≡ None)
      → IsInput (limit asked) input source.bytes source'.bytes
      → Answers threads operations asked input s text → Answers threads operations asked bytes s text
  due input bytes text s (inl is) i a =
      subst (λ x. Answers threads operations asked x s text) (the_input (limit asked) input bytes source.bytes source'.bytes is i) a
  due input bytes text s (inr none) i a = unread_answer bytes none a

  complete : Ran threads operations asked source source' sink sink' result → (Rose source.faults source'.faults → ⊥)
      → (Rose sink.faults sink'.faults → ⊥) → (input : List ℕ) (answer : ℕ) (text : List ℕ)
      → (source.bytes ≡ Some input) ⊎ (limit asked ≡ None)
      → Answers threads operations asked input answer text → (result ≡ answer) ⊎ (result ≡ NO_MEMORY)
  complete (delivered input s text u i a (whole e w h)) r f bytes answer other is b =
      inl (e ∙ status_unique (due input bytes text s is i a) b)
  complete (delivered input s text u i a (part e w h)) r f bytes answer other is b = absurd (f (one_more_rose sink.faults sink'.faults w))
  complete (unread reads e w k) r f bytes answer other is b = absurd (r (one_more_rose source.faults source'.faults w))
  complete (no_memory named t e w k) r f bytes answer other is b = inr e

  -- **the headline**
  pub headline : Asks words asked → Ran threads operations asked source source' sink sink' result
      → TakesInput (limit asked) source.bytes source'.bytes
      → Headline threads operations words source source' sink sink' result
  unfolding Done Answered ReadFailed MemoryRefused WriteFailed Listed OfAnswer
  headline asks ran taken = record {
    asked = asked;
    asks = asks;
    done = λ e. done ran e;
    answered = λ c. answered ran c;
    read_failed = λ e. read_failed ran e;
    write_failed = λ e. write_failed ran e;
    no_memory = λ e. memory_refused ran e;
    statuses = statuses ran;
    reads = λ n. reads_counted ran n;
    writes = λ n. writes_counted ran n;
    taken = taken;
    other_words = λ none r. other_words ran none r;
    complete = λ r w. complete ran r w;
  }
