-- What words ask for and an input have an answer, and only one.
use Rattle.std.proofs.Common.{◌≡◌, ◌≢◌, Bool, true, false, ℕ, ◌≤◌, List, length, refl, sym, ap, ◌∙◌, subst, inl, inr, Option, Some, None}
use Rattle.std.proofs.lemmas.Bool.{cases_lt}
use Rattle.alg_model.specs.Lattices.{first_edition}
use Rattle.alg_compatible.proofs.Editions.{first_is_edition}
use Rattle.ff_poly.specs.Polynomial.{Polynomial}
use Rattle.natural_ops.specs.Operations.{IsOpTable}
use Rattle.natural_ops.proofs.TableValues.{value_at_valid}
use Rattle.lat_gen.specs.Generated.{generated}
use Rattle.lat_language.specs.declared.commands.Op.TheVariants.{First, Second, Third}
use Rattle.lat_language.specs.declared.scripts.Script.{Script}
use Rattle.lat_core.specs.SharedRows.{map_count}
use Rattle.lat_language.specs.Texts.{usage_text, bad_line_text, too_long_text, summary_text}
use Rattle.lat_language.proofs.OneMeaning.{script_unique}
use Rattle.lat_language.proofs.SomeMeaning.{reading_exists}
use Rattle.lat_session.specs.Outcomes.{Operations, operations_of, KeepsValues}
use Rattle.lat_playing.specs.Plays.{IsPlayable}
use Rattle.lat_playing.proofs.ScriptLaws.{one_transcript, some_transcript, solo_fair}
use Rattle.lattice_run.specs.declared.run.TheConstants.{MAX_INPUT}
use Rattle.lattice_run.specs.declared.status.TheConstants.{DONE, NO_COMMAND, BAD_SCRIPT, BAD_DUMP}
use Rattle.lattice_run.specs.declared.tasks.Task.{Task}
use Rattle.lattice_run.specs.declared.tasks.Output.{Output}
use Rattle.lattice_run.specs.declared.tasks.Output.TheVariants.{Transcript, SharedTranscript, Dump}
use Rattle.lattice_run.specs.declared.tasks.Task.TheVariants.{Play, Audit, Gen}
use Rattle.lattice_run.specs.Tasks.{IsProper, Asks}
use Rattle.lat_audit.specs.Dumps.{dump_text}
use Rattle.lat_audit.specs.Verdicts.{Judges}
use Rattle.lat_audit.specs.VerdictTexts.{verdict_text, dump_too_long_text}
use Rattle.lat_audit.specs.declared.verdict_lines.TheConstants.{MAX_DUMP}
use Rattle.lat_audit.specs.declared.verdicts.AuditVerdict.{AuditVerdict}
use Rattle.lat_audit.specs.declared.verdicts.AuditVerdict.TheVariants.{Good, NoMemory}
use Rattle.lat_audit.proofs.SomeVerdict.{verdict_exists}
use Rattle.lat_audit.proofs.OneVerdict.{text_has_one_verdict}
use Rattle.lattice_run.specs.Answers.{IsShared, IsPlayed, IsOutput, Answers}
use Rattle.lattice_run.specs.Answers.Answers.{usage, too_long, bad_line, dump_too_long, bad_dump, output}
use Rattle.lattice_run.specs.Theorems.{InputHasAnswer, InputHasOneAnswer}
use Rattle.lattice_run.proofs.PlayableScripts.{spelled_playable, generated_playable}
use Rattle.lattice_run.proofs.Transcribed.{some_final, one_summary, one_dump}
use Rattle.lattice_run.proofs.Determined.{good_or_fault, Agree, agree}
use Rattle.lattice_run.proofs.Determined.Agree.{one, outputs}

-- what the operations of tables give are values
tables_keep : (first second third : List Polynomial) → IsOpTable first → IsOpTable second
    → IsOpTable third → KeepsValues (operations_of first second third)
tables_keep first second third f s t First K a W v = value_at_valid first K a f W v
tables_keep first second third f s t Second K a W v = value_at_valid second K a s W v
tables_keep first second third f s t Third K a W v = value_at_valid third K a t W v

-- ---- one answer, without threads
module _ (operations : Operations) (keeps : KeepsValues operations) where
  one_played : (wanted : Output) (script : Script) (text other : List ℕ) → IsPlayable script
      → IsPlayed false operations wanted script text → IsPlayed false operations wanted script other → text ≡ other
  one_played Transcript script text other playable t u =
      one_transcript first_edition operations script text other first_is_edition keeps playable t u
  one_played SharedTranscript script text other playable t u =
      one_transcript first_edition operations script text other first_is_edition keeps playable t u
  one_played Dump script text other playable d e = one_dump operations script keeps playable text other d e

  one_output : (task : Task) (input text other : List ℕ) → IsProper task
      → IsOutput false operations task input text → IsOutput false operations task input other → text ≡ other
  one_output (Play wanted) input text other proper (script, s, t) (script', s', t') =
      let same : script' ≡ script = script_unique input script' script s' s in
      one_played wanted script text other (spelled_playable input script s) t
      (subst (λ (x : Script). IsPlayed false operations wanted x other) same t')
  one_output Audit input text other proper (L, j, t) (M, k, u) =
      t ∙ ap verdict_text (text_has_one_verdict input (Good L) (Good M) (λ e. cc) (λ e. cc) j k) ∙ sym u
  one_output (Gen s f m) input text other proper a b =
      one_summary operations (generated s f m) keeps (generated_playable s f m proper.1) text other a b

  agreed : (words : List (List ℕ)) (asked : Option Task) {input : List ℕ} {s t : ℕ}
      {text other : List ℕ} → Asks words asked → Agree false false operations asked input s t text other
      → (s ≡ t) × (text ≡ other)
  agreed words asked asks (one s t) = (s, t)
  agreed words asked {input} {text = text} {other = other} asks (outputs s task is o o') =
      let named : Asks words (Some task) = subst (Asks words) is asks in
      (s, one_output task input text other named.1 o o')

-- **only one**
pub answer_unique : InputHasOneAnswer
answer_unique first second third words asked input s t text other f g h asks a b =
    agreed (operations_of first second third) (tables_keep first second third f g h) words asked asks (agree a b)

-- ---- some answer
-- a transcript of the sessions, with threads and without
some_shared : (operations : Operations) → KeepsValues operations → (threads : Bool)
    (script : Script) → IsPlayable script → (text : List ℕ) × IsShared threads operations script text
some_shared operations keeps true script playable =
    let (text, t) = some_transcript first_edition operations script first_is_edition keeps playable in
    (text, solo_fair first_edition operations script text t)
some_shared operations keeps false script playable =
    some_transcript first_edition operations script first_is_edition keeps playable

module _ (threads : Bool) (operations : Operations) (keeps : KeepsValues operations)
    (words : List (List ℕ)) (input : List ℕ) where
  Answered : Option Task → Type 0
  Answered asked = (s : ℕ) × (text : List ℕ) × Answers threads operations asked input s text

  some_played : (wanted : Output) (script : Script) → IsPlayable script
      → (text : List ℕ) × IsPlayed threads operations wanted script text
  some_played Transcript script playable =
      some_transcript first_edition operations script first_is_edition keeps playable
  some_played SharedTranscript script playable = some_shared operations keeps threads script playable
  some_played Dump script playable =
      let f = some_final operations script keeps playable in (dump_text f.lattice, (f, refl))

  played_answer : (wanted : Output) → length input ≤ MAX_INPUT → Answered (Some (Play wanted))
  unfolding Answered
  played_answer wanted fits = elim (reading_exists input) [
    | inl s ↦
        let (text, played) = some_played wanted s.0 (spelled_playable input s.0 s.1) in
        (DONE, text, output (Play wanted) text refl fits (s.0, s.1, played))
    | inr b ↦ (BAD_SCRIPT, bad_line_text b.0 b.1, bad_line tt fits b.0 b.1 b.2)
  ]

  -- the verdict on the input
  judged_answer : (verdict : AuditVerdict) → length input ≤ MAX_DUMP → verdict ≢ NoMemory
      → Judges input verdict → Answered (Some Audit)
  unfolding Answered
  judged_answer verdict fits given judges = elim (good_or_fault verdict given) [
    | inl g ↦
        let (L, is) = g in
        (DONE, verdict_text (Good L), output Audit (verdict_text (Good L)) refl fits (L, subst (Judges input) is judges, refl))
    | inr f ↦ (BAD_DUMP, verdict_text verdict, bad_dump refl fits verdict judges f)
  ]

  some : (asked : Option Task) → Asks words asked → Answered asked
  unfolding Answered
  some None asks = (NO_COMMAND, usage_text, usage refl)
  some (Some (Play wanted)) asks = elim (cases_lt MAX_INPUT (length input)) [
    | inl l ↦ (BAD_SCRIPT, too_long_text MAX_INPUT, too_long tt l)
    | inr h ↦ played_answer wanted h
  ]
  some (Some Audit) asks = elim (cases_lt MAX_DUMP (length input)) [
    | inl l ↦ (BAD_SCRIPT, dump_too_long_text MAX_DUMP, dump_too_long refl l)
    | inr h ↦ let (verdict, given, judges) = verdict_exists input in judged_answer verdict h given judges
  ]
  some (Some (Gen s f m)) asks =
      let f' = some_final operations (generated s f m) keeps (generated_playable s f m asks.1.1) in
      let text = summary_text (length f'.lattice.rows) (map_count f'.lattice) (length f'.world.history) in
      (DONE, text, output (Gen s f m) text refl tt (f', refl))

-- **there is one**
pub answer_exists : InputHasAnswer
unfolding Answered
answer_exists threads first second third words asked input f g h asks =
    some threads (operations_of first second third) (tables_keep first second third f g h) words input asked asks
