-- From the parts of a run to its answer.
use Rattle.std.proofs.Common.{◌≡◌, Bool, false, ℕ, ◌+◌, ◌≤◌, ◌<◌, List, [], length, drop, replicate, refl, ◌∙◌, sym, ap, subst, arith, Option, Some, None, inl, inr}
use Rattle.std.specs.Prelude.{Result, Ok, Err, IfOk, MatchResult}
use Rattle.std.proofs.Math.ListN.{drop_of_length-le}
use Rattle.std.proofs.lemmas.List.{length-replicate}
use Rattle.lat_io.specs.declared.faults.ReadFault.{ReadFault}
use Rattle.lat_io.specs.declared.faults.ReadFault.TheVariants.{Failed, TooLong, NoMemory as ReadNoMemory}
use Rattle.lat_io.specs.Source.{ReadWhole, TakesFront, TakesAtMost, TakesSome, TookBefore}
use Rattle.lat_io.specs.Streams.{Stream}
use Rattle.lat_language.proofs.ParsedLines.{spelled_not_empty, leading_not_empty}
use Rattle.lat_language.specs.declared.scripts.Script.{Script}
use Rattle.lat_language.specs.Grammar.{Spells, FirstBad}
use Rattle.lat_language.specs.Texts.{usage_text, bad_line_text, too_long_text}
use Rattle.alg_model.specs.Lattices.{first_edition}
use Rattle.lat_gen.specs.Generated.{generated}
use Rattle.lat_audit.specs.Verdicts.{Judges}
use Rattle.lat_audit.specs.VerdictTexts.{verdict_text, dump_too_long_text}
use Rattle.lat_audit.specs.declared.verdict_lines.TheConstants.{MAX_DUMP}
use Rattle.lat_audit.specs.declared.verdicts.AuditVerdict.{AuditVerdict}
use Rattle.lat_audit.specs.declared.verdicts.AuditVerdict.TheVariants.{NoMemory}
use Rattle.lat_session.specs.Outcomes.{Operations}
use Rattle.lat_playing.specs.Plays.{IsPlayable}
use Rattle.lattice_run.specs.declared.run.TheConstants.{MAX_INPUT}
use Rattle.lattice_run.specs.declared.status.TheConstants.{DONE, NO_COMMAND, BAD_SCRIPT, BAD_DUMP}
use Rattle.lattice_run.specs.declared.tasks.Task.{Task}
use Rattle.lattice_run.specs.declared.tasks.Output.{Output}
use Rattle.lattice_run.specs.declared.tasks.Task.TheVariants.{Play, Audit, Gen}
use Rattle.lattice_run.specs.Tasks.{limit}
use Rattle.lattice_run.specs.Answers.{IsSummary, IsPlayed, IsInput, TakesInput}
use Rattle.lattice_run.specs.Answers.Answers.{usage, too_long, bad_line, dump_too_long, bad_dump, output}
use Rattle.lattice_run.specs.PrivateRuns.{Delivers, DeliversOutput, DeliversVerdict, NeedsMemory, AnswersInput, ReadsScript, Ran}
use Rattle.lattice_run.specs.PrivateRuns.AnswersInput.{answered, unanswered}
use Rattle.lattice_run.specs.PrivateRuns.DeliversVerdict.{good, fault, refused}
use Rattle.lattice_run.specs.PrivateRuns.Ran.{delivered, no_memory}
use Rattle.lattice_run.proofs.PlayableScripts.{spelled_playable}

-- ---- the input
-- nothing stands past the end
pub nothing_past : (xs : List ℕ) (i : ℕ) → length xs ≤ i → drop i xs ≡ []
nothing_past xs i h = drop_of_length-le xs h

-- where nothing is read
pub unread_input : (left : Option (List ℕ)) → (input : List ℕ) × IsInput None input left left
unread_input None = ([], tt)
unread_input (Some bytes) = (bytes, (refl, refl))

-- where it was read whole
pub whole_input : (most : ℕ) (left left' : Option (List ℕ)) (input : List ℕ) → length input ≤ most
    → ReadWhole left left' input → IsInput (Some most) input left left'
whole_input most None left' input fits h = tt
whole_input most (Some bytes) left' input fits h =
    (sym h.0, h.1 ∙ ap Some (sym (nothing_past input (most + 1) (omega arith))))

-- some list is longer than n
long_list : (n : ℕ) → (xs : List ℕ) × (n < length xs)
long_list n = (replicate (n + 1) 0, omega (arith, length-replicate {A = ℕ} (n + 1) 0))

-- where it is too long
pub long_input : (most : ℕ) (left left' : Option (List ℕ)) → TakesFront left left' (most + 1)
    → (input : List ℕ) × (most < length input) × IsInput (Some most) input left left'
long_input most None left' h = let (input, long) = long_list most in (input, long, tt)
long_input most (Some bytes) left' h = (bytes, omega (arith, h.0), (refl, h.1))

-- ---- how much was taken
-- all that was left
pub whole_takes : (most : ℕ) (left left' : Option (List ℕ)) (input : List ℕ) → length input ≤ most
    → ReadWhole left left' input → TakesAtMost left left' (most + 1)
whole_takes most None left' input fits h = (0, omega arith, tt)
whole_takes most (Some bytes) left' input fits h =
    let same : length input ≡ length bytes = ap length h.0 in
    (length bytes, omega arith, (omega arith, h.1 ∙ ap Some (sym (nothing_past bytes (length bytes) (omega arith)))))

-- where reading ends before that
pub before_takes : (most : ℕ) (fault : ReadFault) (left left' : Option (List ℕ))
    → TookBefore fault most left left' → TakesAtMost left left' (most + 1)
before_takes most Failed left left' (count, fits, taken) = (count, omega arith, taken)
before_takes most (TooLong n) left left' (is, taken) = (most + 1, omega arith, taken)
before_takes most ReadNoMemory left left' (count, some, fits, taken) = (count, omega arith, taken)

-- where nothing is read
pub unread_takes : (asked : Option Task) (left : Option (List ℕ)) → limit asked ≡ None
    → TakesInput (limit asked) left left
unread_takes asked left none = subst (λ most. TakesInput most left left) (sym none) refl

-- ---- want of memory
-- a text that has a byte was read whole
pub some_taken : (most : ℕ) (left left' : Option (List ℕ)) (input : List ℕ) → 0 < length input
    → length input ≤ most → ReadWhole left left' input → TakesSome left left' most
some_taken most None left' input some fits h = (length input, some, fits, tt)
some_taken most (Some bytes) left' input some fits h =
    let same : length input ≡ length bytes = ap length h.0 in
    (length bytes, omega arith, omega arith, (omega arith, h.1 ∙ ap Some (sym (nothing_past bytes (length bytes) (omega arith)))))

needs_not_empty : (input : List ℕ) → NeedsMemory input → 0 < length input
needs_not_empty input (inl leads) = leading_not_empty input leads
needs_not_empty input (inr (script, spelled)) = spelled_not_empty input script spelled

-- ---- the answer to an input that is no script
module _ {operations : Operations} (wanted : Output) (source source' sink sink' : Stream)
    (result : ℕ) where
  -- an answer to the input, or want of memory for it, is a way out of the run
  ran_input : (input : List ℕ) → source'.faults ≡ source.faults → length input ≤ MAX_INPUT
      → ReadWhole source.bytes source'.bytes input
      → AnswersInput operations wanted input sink sink' result
      → Ran false operations (Some (Play wanted)) source source' sink sink' result
  ran_input input u fits h (answered status text a d) =
      delivered input status text u (whole_input MAX_INPUT source.bytes source'.bytes input fits h) a d
  ran_input input u fits h (unanswered needs e k) =
      no_memory (λ z. cc) (some_taken MAX_INPUT source.bytes source'.bytes input (needs_not_empty input needs) fits h) e u k

  -- the line for an input that is too long answers it
  pub ran_too_long : (text : List ℕ) → source'.faults ≡ source.faults
      → TakesFront source.bytes source'.bytes (MAX_INPUT + 1) → text ≡ too_long_text MAX_INPUT
      → Delivers BAD_SCRIPT text sink sink' result
      → Ran false operations (Some (Play wanted)) source source' sink sink' result
  ran_too_long text u taken is d =
      let (input, long, whole) = long_input MAX_INPUT source.bytes source'.bytes taken in
      delivered input BAD_SCRIPT (too_long_text MAX_INPUT) u whole (too_long tt long) (subst (λ t. Delivers BAD_SCRIPT t sink sink' result) is d)

-- the line for a first fault answers the input
pub answered_bad : {operations : Operations} (wanted : Output) (input : List ℕ)
    (sink sink' : Stream) (result line kind : ℕ) (text : List ℕ) → length input ≤ MAX_INPUT
    → FirstBad input line kind → text ≡ bad_line_text line kind
    → Delivers BAD_SCRIPT text sink sink' result → AnswersInput operations wanted input sink sink' result
answered_bad wanted input sink sink' result line kind text fits bad is d =
    answered BAD_SCRIPT (bad_line_text line kind) (bad_line tt fits line kind bad) (subst (λ t. Delivers BAD_SCRIPT t sink sink' result) is d)

-- ---- the script that was read, or the status
module _ (source source' sink sink' : Stream) (input : List ℕ) where
  pub read_is : (result : Result Script ℕ) → source'.faults ≡ source.faults
      → length input ≤ MAX_INPUT → ReadWhole source.bytes source'.bytes input
      → MatchResult result (λ script. Spells input script × (sink' ≡ sink))
      (λ status. (operations : Operations) (wanted : Output)
      → AnswersInput operations wanted input sink sink' status)
      → MatchResult result (λ script. ReadsScript script source source' × (sink' ≡ sink))
      (λ status. (operations : Operations) (wanted : Output)
      → Ran false operations (Some (Play wanted)) source source' sink sink' status)
  read_is (Ok script) u fits h (spelled, k) =
      (record { input = input; fits = fits; whole = h; spelled = spelled; unfailed = u }, k)
  read_is (Err status) u fits h a = λ operations wanted.
      ran_input wanted source source' sink sink' status input u fits h (a operations wanted)

-- ---- the verdict on what was read
module _ {operations : Operations} (source source' sink sink' : Stream) (result : ℕ) where
  -- its line answers the input, or memory was wanting for it
  pub ran_verdict : (verdict : AuditVerdict) (input : List ℕ) → source'.faults ≡ source.faults
      → length input ≤ MAX_DUMP → ReadWhole source.bytes source'.bytes input → Judges input verdict
      → (verdict ≡ NoMemory → 0 < length input) → DeliversVerdict verdict sink sink' result
      → Ran false operations (Some Audit) source source' sink sink' result
  ran_verdict verdict input u fits h judges some (good L is d) =
      delivered input DONE (verdict_text verdict) u (whole_input MAX_DUMP source.bytes source'.bytes input fits h)
      (output Audit (verdict_text verdict) refl fits (L, subst (Judges input) is judges, ap verdict_text is)) d
  ran_verdict verdict input u fits h judges some (fault is d) =
      delivered input BAD_DUMP (verdict_text verdict) u (whole_input MAX_DUMP source.bytes source'.bytes input fits h)
      (bad_dump refl fits verdict judges is) d
  ran_verdict verdict input u fits h judges some (refused is e k) =
      no_memory (λ z. cc) (some_taken MAX_DUMP source.bytes source'.bytes input (some is) fits h) e u k

  -- the line for a dump that is too long answers it
  pub ran_long_dump : (text : List ℕ) → source'.faults ≡ source.faults
      → TakesFront source.bytes source'.bytes (MAX_DUMP + 1) → text ≡ dump_too_long_text MAX_DUMP
      → Delivers BAD_SCRIPT text sink sink' result
      → Ran false operations (Some Audit) source source' sink sink' result
  ran_long_dump text u taken is d =
      let (input, long, whole) = long_input MAX_DUMP source.bytes source'.bytes taken in
      delivered input BAD_SCRIPT (dump_too_long_text MAX_DUMP) u whole (dump_too_long refl long)
      (subst (λ t. Delivers BAD_SCRIPT t sink sink' result) is d)

-- what was read can be played
pub read_playable : {source source' : Stream} (script : Script) → ReadsScript script source source'
    → IsPlayable script
read_playable script r = spelled_playable r.input script r.spelled

-- ---- the output of a task
module _ {threads : Bool} {operations : Operations} (source source' sink sink' : Stream)
    (result : ℕ) where
  -- what is written of the script that was read, or want of memory for it
  pub ran_output : {V E : Type 0} (items : V → List ℕ) (written : Result V E) (wanted : Output)
      (middle : Stream) (script : Script) → ReadsScript script source source' → middle ≡ sink
      → IfOk written (λ text. IsPlayed threads operations wanted script (items text))
      → DeliversOutput items written middle sink' result
      → Ran threads operations (Some (Play wanted)) source source' sink sink' result
  ran_output items (Ok text) wanted middle script r same played d =
      delivered r.input DONE (items text) r.unfailed (whole_input MAX_INPUT source.bytes source'.bytes r.input r.fits r.whole)
      (output (Play wanted) (items text) refl r.fits (script, r.spelled, played))
      (subst (λ s. Delivers DONE (items text) s sink' result) same d)
  ran_output items (Err e) wanted middle script r same played (none, kept) =
      no_memory (λ z. cc)
      (some_taken MAX_INPUT source.bytes source'.bytes r.input (spelled_not_empty r.input script r.spelled) r.fits r.whole)
      none r.unfailed (kept ∙ same)

  -- the summary of a generated script, or want of memory for it
  pub ran_summary : {V E : Type 0} (items : V → List ℕ) (written : Result V E)
      (seed fields embeds : ℕ) → IfOk written (λ text.
      IsSummary first_edition operations (generated seed fields embeds) (items text))
      → DeliversOutput items written sink sink' result
      → Ran threads operations (Some (Gen seed fields embeds)) source source sink sink' result
  ran_summary items (Ok text) seed fields embeds summary d =
      let (input, unread) = unread_input source.bytes in
      delivered input DONE (items text) refl unread (output (Gen seed fields embeds) (items text) refl tt summary) d
  ran_summary items (Err e) seed fields embeds summary (none, kept) =
      no_memory (λ z. cc) tt none refl kept

module _ {threads : Bool} {operations : Operations} (source sink sink' : Stream) (result : ℕ) where
  -- the usage line answers other words
  pub ran_usage : (text : List ℕ) → text ≡ usage_text → Delivers NO_COMMAND text sink sink' result
      → Ran threads operations None source source sink sink' result
  ran_usage text is d =
      let (input, unread) = unread_input source.bytes in
      delivered input NO_COMMAND usage_text refl unread (usage refl) (subst (λ t. Delivers NO_COMMAND t sink sink' result) is d)

-- what is asked for, from its case
pub ran_for : {threads : Bool} {operations : Operations} (asked other : Option Task)
    (source source' sink sink' : Stream) (result : ℕ) → asked ≡ other
    → Ran threads operations other source source' sink sink' result
    → Ran threads operations asked source source' sink sink' result
ran_for {threads} {operations} asked other source source' sink sink' result is ran =
    subst (λ a. Ran threads operations a source source' sink sink' result) (sym is) ran
