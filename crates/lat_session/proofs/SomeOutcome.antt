-- A command that asks for no change has an outcome.
use Rattle.std.proofs.Common.{◌≡◌, ◌⊎◌, inl, inr, ⊎_elim, ℕ, ◌<◌, ◌≤◌, List, [], ◌∷◌, length, refl, Option, Some, None, arith}
use Rattle.std.specs.Prelude.{Ok, Err}
use Rattle.std.specs.List.{AllByRecursion}
use Rattle.std.specs.Option.{option_map}
use Rattle.std.specs.FinMap.{get, len, insert}
use Rattle.std.proofs.lemmas.Bool.{cases_eq, cases_lt}
use Rattle.alg_model.specs.Coefficients.{Ops}
use Rattle.alg_model.specs.Fields.{IsField}
use Rattle.alg_model.specs.Maps.{field_values, degree_of}
use Rattle.alg_model.specs.Conjugates.{trace, norm}
use Rattle.alg_model.specs.Lattices.{Lattice, field_at, IsCompatible}
use Rattle.alg_rings.proofs.Decisions.{lists_equal_or_not}
use Rattle.alg_galois.proofs.Fields.{modulus_of, field_is}
use Rattle.alg_galois.proofs.FieldTraces.{prime_traces}
use Rattle.alg_compatible.proofs.Transfer.{field_finite}
use Rattle.lat_core.specs.declared.tagged.Tagged.{Tagged}
use Rattle.lat_core.specs.declared.tagged.Sending.{Sending}
use Rattle.lat_core.specs.declared.requests.Request.TheVariants as requests
use Rattle.lat_core.specs.declared.questions.Question.{Question}
use Rattle.lat_core.specs.declared.questions.Question.TheVariants as questions
use Rattle.lat_core.specs.declared.questions.Answer.{Answer}
use Rattle.lat_core.specs.declared.outcomes.Outcome.{Outcome}
use Rattle.lat_core.specs.Answers.{IsTaggedValue, Answers}
use Rattle.lat_core.specs.Answers.HasCommon.{first, second, other, none}
use Rattle.lat_core.specs.Answers.LiftsTo.{up, down, not_in_image, not_embedded}
use Rattle.lat_core.specs.Answers.AnswersMap.{image as map_image, not_embedded as no_image}
use Rattle.lat_core.specs.Answers.HasMeet.{first_not_embedded, second_not_embedded, meet as met}
use Rattle.lat_core.specs.Answers.HasMinimalOver.{minimal, not_embedded as no_subfield}
use Rattle.lat_core.specs.Answers.Answers.{field_named, field_number, map as answers_map, lift as answers_lift, common as answers_common, meets, subfields as answers_subfields, minimal_polynomial as answers_minimal, minimal_over as answers_over, count as answers_count}
use Rattle.lat_core.proofs.Decisions.{named_or_free, first_or_none}
use Rattle.lat_coerce.proofs.AnswersExist.{question_has_answer}
use Rattle.lat_language.specs.declared.commands.Command.{Command}
use Rattle.lat_language.specs.declared.commands.Command.TheVariants.{Field, Embed, EmbedSending, Sync, Let, Add, Mul, Inv, Pow, Frob, Trace, Norm, Lift, Apply, Show, Map, Meet, Common, MinPoly, MinPolyOver, Count}
use Rattle.lat_language.specs.declared.commands.Command.TheVariants as commands
use Rattle.lat_session.specs.declared.TheConstants.{MAX_VARIABLES}
use Rattle.lat_session.specs.Variables.{Variables, IsVariable, IsFullFor, AreVariables}
use Rattle.lat_session.specs.Commands.{operands, field_words, result_name, sending_of, request_of}
use Rattle.lat_session.specs.Outcomes.{IsFirstUnknown, IsFieldWord, Asks, Shows, Computed, Reads, Combines, Inverts, IsInPrimeField, Lifts, Operations, Computes, HasOutcome}
use Rattle.lat_session.specs.Outcomes.IsFirstUnknown.{here, later}
use Rattle.lat_session.specs.Outcomes.Asks.{map, meet, common, minimal_polynomial, minimal_over, subfields, count}
use Rattle.lat_session.specs.Outcomes.Shows.{image, named, numbers, polynomial, over_field, counted, refused as fault_shown}
use Rattle.lat_session.specs.Outcomes.Reads.{too_many, too_large, value as digits_value}
use Rattle.lat_session.specs.Outcomes.Combines.{no_common_field, value as combined}
use Rattle.lat_session.specs.Outcomes.Inverts.{zero as no_inverse, value as inverted}
use Rattle.lat_session.specs.Outcomes.Lifts.{not_lifted, value as lifted}
use Rattle.lat_session.specs.Outcomes.Computes.{of_let, of_add, of_mul, of_inv, of_pow, of_frob, of_trace, of_norm, of_lift, of_apply}
use Rattle.lat_session.specs.Outcomes.HasOutcome.{unknown_variable, unknown_field, asked, shown, refused, full, stored}
use Rattle.lat_session.specs.PrivateCombining.{IsPrimeFieldOf}
use Rattle.lat_session.specs.PrivatePlaying.{IsAsked}
use Rattle.lat_session.specs.PrivatePlaying.Questions.{asked as questioned}
use Rattle.lat_session.specs.Theorems.{CommandHasOutcome}
use Rattle.lat_session.proofs.AskedLines.{question_fits}
use Rattle.lat_session.proofs.CombinedValues.{residue_in_prime}

-- ---- names
not_none : {A : Type 0} {a : A} → Some a ≡ None → ⊥
not_none e = cc

variable_or_not : (variables : Variables) (name : List ℕ)
    → IsVariable variables name ⊎ ¬ IsVariable variables name
variable_or_not variables name = found (get variables name) refl
  where
    found : (o : Option Tagged) → get variables name ≡ o
        → IsVariable variables name ⊎ ¬ IsVariable variables name
    found (Some t) e = inl (t, record { found = e })
    found None e = inr (λ (t, h). let f : get variables name ≡ Some t = h.found in cc)

word_or_not : (L : Lattice) (name : List ℕ) → IsFieldWord L name ⊎ ¬ IsFieldWord L name
word_or_not L name = ⊎_elim (λ h. inl h) (λ free. inr (λ (n, h). free n h)) (named_or_free L name)

-- the first that isn't known, or all are
first_or_all : {P : List ℕ → Type 0} → ((name : List ℕ) → P name ⊎ ¬ P name)
    → (names : List (List ℕ))
    → ((name : List ℕ) × IsFirstUnknown P names name) ⊎ AllByRecursion P names
first_or_all told [] = inr tt
first_or_all told (x ∷ xs) = ⊎_elim
    (λ h. ⊎_elim (λ (n, r). inl (n, later h r)) (λ k. inr (h, k)) (first_or_all told xs))
    (λ absent. inl (x, here absent))
    (told x)

full_or_not : (variables : Variables) (name : List ℕ)
    → IsFullFor variables name ⊎ ¬ IsFullFor variables name
full_or_not variables name = ⊎_elim
    (λ h. inr (λ f. f.new h))
    (λ new. ⊎_elim (λ l. inr (λ f. let g : MAX_VARIABLES ≤ len variables = f.full in absurd (omega arith)))
    (λ g. inl (record { new = new; full = g })) (cases_lt (len variables) MAX_VARIABLES))
    (variable_or_not variables name)

-- the values of two variables are a pair
pair_found : (variables : Variables) (value image : List ℕ) → IsVariable variables value
    → IsVariable variables image → sending_of variables value image ≡ None → ⊥
pair_found variables value sent (v, h) (w, k) e =
    let f : get variables value ≡ Some v = h.found in
    let g : get variables sent ≡ Some w = k.found in
    let p : sending_of variables value sent ≡ Some (record { value = v; image = w }) =
    rw (f, g) refl in
    cc

-- a question of a command has an answer that is shown
shown_answer : {L : Lattice} {q : Question} {x : Answer} → IsAsked q → Answers L q x
    → (o : Outcome) × Shows L x o
shown_answer h (field_named a) = absurd h
shown_answer h field_number = absurd h
shown_answer h (answers_lift a) = absurd h
shown_answer h (answers_map (map_image s)) = (_, image)
shown_answer h (answers_map (no_image absent)) = (_, fault_shown)
shown_answer h (answers_common (first k)) = (_, named)
shown_answer h (answers_common (second absent k)) = (_, named)
shown_answer h (answers_common (other absent nor k least)) = (_, named)
shown_answer h (answers_common (none absent)) = (_, fault_shown)
shown_answer h (meets (first_not_embedded absent)) = (_, fault_shown)
shown_answer h (meets (second_not_embedded s absent)) = (_, fault_shown)
shown_answer h (meets (met A B M least)) = (_, named)
shown_answer h (answers_subfields k) = (_, numbers)
shown_answer h (answers_minimal k) = (_, polynomial)
shown_answer h (answers_over (minimal s k)) = (_, over_field)
shown_answer h (answers_over (no_subfield absent)) = (_, fault_shown)
shown_answer h answers_count = (_, counted)

module _ {L : Lattice} (C : IsCompatible L) where
  -- ---- what is computed
  reads_some : (i : ℕ) (digits : List ℕ) → (x : Computed) × Reads L i digits x
  reads_some i digits = ⊎_elim
      (λ over. (_, too_many over))
      (λ few. ⊎_elim (λ (place, f). (_, too_large few f)) (λ small. (_, digits_value few small))
      (first_or_none (field_at L.rows i).characteristic digits))
      (cases_lt (degree_of (field_at L.rows i)) (length digits))

  combines_some : (operation : Ops (List ℕ) → List ℕ → List ℕ → List ℕ) (a b : Tagged)
      → IsTaggedValue L a → IsTaggedValue L b → (x : Computed) × Combines L operation a b x
  combines_some operation a b A B =
      let (answer, h) = question_has_answer L (questions.Common a.field b.field) C (A.tag, B.tag) in
      by_answer h
    where
      by_answer : {answer : Answer} → Answers L (questions.Common a.field b.field) answer
          → (x : Computed) × Combines L operation a b x
      by_answer (answers_common (first k)) = (_, combined (first k) (up k.common.0.1) (up k.common.1.1))
      by_answer (answers_common (second absent k)) =
          (_, combined (second absent k) (up k.common.0.1) (up k.common.1.1))
      by_answer (answers_common (other absent nor k least)) =
          (_, combined (other absent nor k least) (up k.common.0.1) (up k.common.1.1))
      by_answer (answers_common (none absent)) = (_, no_common_field (none absent))

  inverts_some : (t : Tagged) → IsTaggedValue L t → (x : Computed) × Inverts L t x
  inverts_some t T =
      let W = field_finite L C.rows t.field T.tag in
      let F : IsField (field_values (field_at L.rows t.field)) =
      field_is (field_at L.rows t.field).characteristic W.characteristic
      (field_at L.rows t.field).polynomial (modulus_of (field_at L.rows t.field) W) in
      ⊎_elim (λ z. (_, no_inverse z))
      (λ n. let (b, v, e) = F.inverse t.value T.value n in (_, inverted v e))
      (lists_equal_or_not cases_eq t.value (field_values (field_at L.rows t.field)).ops.zero)

  prime_of : (i : ℕ) → i < length L.rows → (q : ℕ) × IsPrimeFieldOf L i q
  prime_of i h = let (q, m, small, s) = C.compatible.prime_subfield i h in
      (q, record { prime = small; map = m; stored = s })

  trace_some : (t : Tagged) → IsTaggedValue L t
      → (c : Tagged) × IsInPrimeField L t.field (trace (field_at L.rows t.field) t.value) c
  trace_some t T =
      let (q, P) = prime_of t.field T.tag in
      let (b, e) = (prime_traces (field_at L.rows t.field) (field_finite L C.rows t.field T.tag)).trace_is_image t.value T.value in
      (_, residue_in_prime C P b.0 b.1 e)

  norm_some : (t : Tagged) → IsTaggedValue L t
      → (c : Tagged) × IsInPrimeField L t.field (norm (field_at L.rows t.field) t.value) c
  norm_some t T =
      let (q, P) = prime_of t.field T.tag in
      let (b, e) = (prime_traces (field_at L.rows t.field) (field_finite L C.rows t.field T.tag)).norm_is_image t.value T.value in
      (_, residue_in_prime C P b.0 b.1 e)

  lifts_some : (t : Tagged) (j : ℕ) → IsTaggedValue L t → j < length L.rows
      → (x : Computed) × Lifts L t j x
  lifts_some t j T J =
      let (answer, h) = question_has_answer L (questions.Lift t j) C (T, J) in by_answer h
    where
      by_answer : {answer : Answer} → Answers L (questions.Lift t j) answer
          → (x : Computed) × Lifts L t j x
      by_answer (answers_lift (up s)) = (_, lifted (up s))
      by_answer (answers_lift (down n s k)) = (_, lifted (down n s k))
      by_answer (answers_lift (not_in_image n s k)) = (_, not_lifted (not_in_image n s k))
      by_answer (answers_lift (not_embedded n k)) = (_, not_lifted (not_embedded n k))

  module _ (operations : Operations) (variables : Variables) (V : AreVariables L variables) where
    abbrev Outcomes : Command → Type 0
    Outcomes command = (o : Outcome) × (after : Variables)
        × HasOutcome operations L variables command o after

    -- an unknown name, or what comes of known ones
    where_known : (command : Command)
        → (AllByRecursion (IsVariable variables) (operands command)
        → AllByRecursion (IsFieldWord L) (field_words command) → Outcomes command)
        → Outcomes command
    where_known command known = ⊎_elim
        (λ (n, h). (_, variables, unknown_variable h))
        (λ all. ⊎_elim (λ (n, h). (_, variables, unknown_field all h)) (known all)
        (first_or_all (word_or_not L) (field_words command)))
        (first_or_all (variable_or_not variables) (operands command))

    ends_asked : {command : Command} {q : Question} → Asks L variables command q → Outcomes command
    ends_asked {command} {q} a =
        let fits = question_fits (Ok q) V (questioned a) in
        let (x, h) = question_has_answer L q C fits.0 in
        let (o, s) = shown_answer fits.1 h in
        (o, variables, asked a h s)

    ends_computed : {command : Command} (name : List ℕ) → result_name command ≡ Some name
        → (x : Computed) × Computes operations L variables command x → Outcomes command
    ends_computed name n (Err r, c) = (_, variables, refused c)
    ends_computed name n (Ok t, c) = ⊎_elim (λ f. (_, variables, full c n f))
        (λ f. (_, insert variables name t, stored c n f)) (full_or_not variables name)

    -- **each command**
    ends : (command : Command) → request_of variables command ≡ None → Outcomes command
    ends (Field name p poly) e = absurd (not_none e)
    ends (Embed from into) e = absurd (not_none e)
    ends Sync e = absurd (not_none e)
    ends (EmbedSending from into value sent) e = where_known (EmbedSending from into value sent)
        (λ all words. absurd (pair_found variables value sent all.0 all.1.0 (no_pair (sending_of variables value sent) e)))
      where
        no_pair : (o : Option Sending) → option_map (λ s. requests.Embed from into (Some s)) o ≡ None → o ≡ None
        no_pair None e = refl
        no_pair (Some s) e = absurd (not_none e)
    ends (Let result field digits) e = where_known (Let result field digits) (λ all words.
        let (i, n) = words.0 in let (x, r) = reads_some i digits in
        ends_computed result refl (x, of_let n r))
    ends (Add result left right) e = where_known (Add result left right) (λ all words.
        let (a, h) = all.0 in let (b, k) = all.1.0 in
        let (x, c) = combines_some (λ o. o.add) a b (V.values h) (V.values k) in
        ends_computed result refl (x, of_add h k c))
    ends (Mul result left right) e = where_known (Mul result left right) (λ all words.
        let (a, h) = all.0 in let (b, k) = all.1.0 in
        let (x, c) = combines_some (λ o. o.mul) a b (V.values h) (V.values k) in
        ends_computed result refl (x, of_mul h k c))
    ends (Inv result value) e = where_known (Inv result value) (λ all words.
        let (t, h) = all.0 in let (x, i) = inverts_some t (V.values h) in
        ends_computed result refl (x, of_inv h i))
    ends (Pow result value exponent) e = where_known (Pow result value exponent) (λ all words.
        let (t, h) = all.0 in ends_computed result refl (_, of_pow h))
    ends (Frob result value) e = where_known (Frob result value) (λ all words.
        let (t, h) = all.0 in ends_computed result refl (_, of_frob h))
    ends (Trace result value) e = where_known (Trace result value) (λ all words.
        let (t, h) = all.0 in let (c, p) = trace_some t (V.values h) in
        ends_computed result refl (_, of_trace h p))
    ends (Norm result value) e = where_known (Norm result value) (λ all words.
        let (t, h) = all.0 in let (c, p) = norm_some t (V.values h) in
        ends_computed result refl (_, of_norm h p))
    ends (Lift result value to) e = where_known (Lift result value to) (λ all words.
        let (t, h) = all.0 in let (j, n) = words.0 in
        let (x, l) = lifts_some t j (V.values h) n.within in
        ends_computed result refl (x, of_lift h n l))
    ends (Apply result op value) e = where_known (Apply result op value) (λ all words.
        let (t, h) = all.0 in ends_computed result refl (_, of_apply h))
    ends (Show value) e = where_known (Show value) (λ all words.
        let (t, h) = all.0 in (_, variables, shown refl h))
    ends (Map from into) e = where_known (Map from into) (λ all words.
        let (i, h) = words.0 in let (j, k) = words.1.0 in ends_asked (map h k))
    ends (Meet one two within) e = where_known (Meet one two within) (λ all words.
        let (i, h) = words.0 in let (j, k) = words.1.0 in let (l, m) = words.1.1.0 in
        ends_asked (meet h k m))
    ends (Common one two) e = where_known (Common one two) (λ all words.
        let (a, h) = words.0 in let (b, k) = words.1.0 in ends_asked (common h k))
    ends (MinPoly value) e = where_known (MinPoly value) (λ all words.
        let (t, h) = all.0 in ends_asked (minimal_polynomial h))
    ends (MinPolyOver value over) e = where_known (MinPolyOver value over) (λ all words.
        let (t, h) = all.0 in let (n, k) = words.0 in ends_asked (minimal_over h k))
    ends (commands.List field) e = where_known (commands.List field) (λ all words.
        let (k, h) = words.0 in ends_asked (subfields h))
    ends Count e = ends_asked count

-- **a command that asks for no change has an outcome**
pub command_has_outcome : CommandHasOutcome
command_has_outcome operations L variables command C V reads = ends C operations variables V command reads
