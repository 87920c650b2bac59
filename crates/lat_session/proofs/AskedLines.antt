-- The line of a command that only asks.
use Rattle.std.proofs.Common.{◌≡◌, ℕ, ◌<◌, List, length, refl, sym, subst}
use Rattle.std.specs.Prelude.{Result, Ok, Err, IfOk}
use Rattle.std.specs.List.{AllByRecursion}
use Rattle.alg_model.specs.Lattices.{Lattice, IsCompatible}
use Rattle.ff_poly.specs.Polynomial.{Polynomial}
use Rattle.lat_core.specs.declared.questions.Question.{Question}
use Rattle.lat_core.specs.declared.questions.CoerceFault.{CoerceFault}
use Rattle.lat_core.specs.declared.questions.Answer.{Answer}
use Rattle.lat_core.specs.declared.questions.Answer.TheVariants as answers
use Rattle.lat_core.specs.declared.outcomes.Line.{Line}
use Rattle.lat_core.specs.declared.outcomes.Outcome.{Outcome}
use Rattle.lat_core.specs.declared.outcomes.Outcome.TheVariants.{Refused}
use Rattle.lat_core.specs.declared.outcomes.SessionRefusal.{SessionRefusal}
use Rattle.lat_core.specs.declared.outcomes.SessionRefusal.TheVariants.{UnknownField, UnknownVariable}
use Rattle.lat_core.specs.Histories.{Knowledge}
use Rattle.lat_core.specs.Answers.{Fits, IsStoredPair, Answers}
use Rattle.lat_core.specs.Answers.AnswersNamed.{named, unknown as unknown_name}
use Rattle.lat_core.specs.Answers.LiftsTo.{up, down, not_in_image, not_embedded}
use Rattle.lat_core.specs.Answers.AnswersMap.{image, not_embedded as no_image}
use Rattle.lat_core.specs.Answers.HasCommon.{first, second, other, none}
use Rattle.lat_core.specs.Answers.HasMeet.{first_not_embedded, second_not_embedded, meet}
use Rattle.lat_core.specs.Answers.HasMinimalOver.{minimal, not_embedded as no_subfield}
use Rattle.lat_core.specs.Answers.Answers.{field_named, field_number, map, lift, common, meets, subfields, minimal_polynomial, minimal_over, count}
use Rattle.lat_language.specs.declared.commands.Command.{Command}
use Rattle.lat_session.specs.Variables.{Variables, IsVariable, AreVariables}
use Rattle.lat_session.specs.Commands.{operands, field_words}
use Rattle.lat_session.specs.Outcomes.{IsFirstUnknown, IsFieldWord, Asks, Operations, HasOutcome}
use Rattle.lat_session.specs.Outcomes.Asks.{map as asks_map, meet as asks_meet, common as asks_common, minimal_polynomial as asks_minimal, minimal_over as asks_over, subfields as asks_subfields, count as asks_count}
use Rattle.lat_session.specs.Outcomes.HasOutcome.{unknown_variable, unknown_field, asked as has_asked}
use Rattle.lat_session.specs.Playing.{IsSeen}
use Rattle.lat_session.specs.Playing.PlaysOver.{read}
use Rattle.lat_session.specs.PrivatePlaying.{IsAsked, IsShownAs, Questions, AsksTo}
use Rattle.lat_session.specs.PrivatePlaying.IsUnknown.{variable, field}
use Rattle.lat_session.specs.PrivatePlaying.Questions.{unknown, asked}
use Rattle.lat_session.proofs.Plays.{line_of}

-- ---- the question
-- names that aren't known
pub unknown_word : (L : Lattice) (variables : Variables) (command : Command) (name : List ℕ)
    (refusal : SessionRefusal) → AllByRecursion (IsVariable variables) (operands command)
    → IsFirstUnknown (IsFieldWord L) (field_words command) name → refusal ≡ UnknownField name
    → Questions L variables command (Err refusal)
unknown_word L variables command name refusal known h e =
    subst (λ r. Questions L variables command (Err r)) (sym e) (unknown (field known h))

pub unknown_operand : (L : Lattice) (variables : Variables) (command : Command) (name : List ℕ)
    (refusal : SessionRefusal) → IsFirstUnknown (IsVariable variables) (operands command) name
    → refusal ≡ UnknownVariable name → Questions L variables command (Err refusal)
unknown_operand L variables command name refusal h e =
    subst (λ r. Questions L variables command (Err r)) (sym e) (unknown (variable h))

-- a question of a command fits
asks_fits : {L : Lattice} {variables : Variables} {command : Command} {q : Question}
    → AreVariables L variables → Asks L variables command q → Fits L q × IsAsked q
asks_fits V (asks_map h k) = ((h.within, k.within), tt)
asks_fits V (asks_meet h k l) = ((h.within, k.within, l.within), tt)
asks_fits V (asks_common h k) = ((h.within, k.within), tt)
asks_fits V (asks_minimal h) = (V.values h, tt)
asks_fits V (asks_over h k) = ((V.values h, k.within), tt)
asks_fits V (asks_subfields h) = (h.within, tt)
asks_fits V asks_count = (tt, tt)

pub question_fits : {L : Lattice} {variables : Variables} {command : Command}
    (question : Result Question SessionRefusal) → AreVariables L variables
    → Questions L variables command question → IfOk question (λ q. Fits L q × IsAsked q)
question_fits (Ok q) V (asked a) = asks_fits V a
question_fits (Err refusal) V h = tt

-- ---- the answer
pub target_within : {L : Lattice} {i j : ℕ} → IsCompatible L → IsStoredPair L i j → j < length L.rows
target_within C (m, s) = (C.compatible.within s).1

-- a field that is answered is one of the lattice
pub answered_number : {L : Lattice} {q : Question} {answer : Answer} {n : ℕ} → IsCompatible L
    → Answers L q answer → answer ≡ answers.Is n → n < length L.rows
answered_number C (field_named (named h)) e = cc
answered_number C (field_named (unknown_name free)) e = cc
answered_number C field_number e = cc
answered_number C (map (image s)) e = cc
answered_number C (map (no_image absent)) e = cc
answered_number C (lift (up s)) e = cc
answered_number C (lift (down absent s h)) e = cc
answered_number C (lift (not_in_image absent s h)) e = cc
answered_number C (lift (not_embedded absent nor)) e = cc
answered_number {L} {n = n} C (common {a = a} (first h)) e =
    let same : a ≡ n = cc in subst (λ k. k < length L.rows) same (target_within C h.common.0)
answered_number {L} {n = n} C (common {b = b} (second absent h)) e =
    let same : b ≡ n = cc in subst (λ k. k < length L.rows) same (target_within C h.common.0)
answered_number {L} {n = n} C (common (other {g = g} absent nor h l)) e =
    let same : g ≡ n = cc in subst (λ k. k < length L.rows) same (target_within C h.common.0)
answered_number C (common (none absent)) e = cc
answered_number C (meets (first_not_embedded absent)) e = cc
answered_number C (meets (second_not_embedded s absent)) e = cc
answered_number {L} {n = n} C (meets (meet {l = l} A B M least)) e =
    let same : l ≡ n = cc in subst (λ k. k < length L.rows) same (C.compatible.within M.first_stored).0
answered_number C (subfields h) e = cc
answered_number C (minimal_polynomial h) e = cc
answered_number C (minimal_over (minimal s h)) e = cc
answered_number C (minimal_over (no_subfield absent)) e = cc
answered_number C count e = cc

-- a question of a command has an answer that is shown
pub not_shown : {L : Lattice} {q : Question} {answer : Answer} → IsAsked q → Answers L q answer
    → ((v : List ℕ) → answer ≡ answers.Image v → ⊥) → ((n : ℕ) → answer ≡ answers.Is n → ⊥)
    → ((ns : List ℕ) → answer ≡ answers.Numbers ns → ⊥)
    → ((f : Polynomial) → answer ≡ answers.Poly f → ⊥)
    → ((g : List (List ℕ)) → answer ≡ answers.RelPoly g → ⊥)
    → ((a b : ℕ) → answer ≡ answers.Counted a b → ⊥)
    → ((fault : CoerceFault) → answer ≡ answers.Refused fault → ⊥) → ⊥
not_shown h (field_named a) i n l p r c f = h
not_shown h field_number i n l p r c f = h
not_shown h (lift a) i n l p r c f = h
not_shown h (map (image s)) i n l p r c f = i _ refl
not_shown h (map (no_image absent)) i n l p r c f = f _ refl
not_shown h (common (first k)) i n l p r c f = n _ refl
not_shown h (common (second absent k)) i n l p r c f = n _ refl
not_shown h (common (other absent nor k least)) i n l p r c f = n _ refl
not_shown h (common (none absent)) i n l p r c f = f _ refl
not_shown h (meets (first_not_embedded absent)) i n l p r c f = f _ refl
not_shown h (meets (second_not_embedded s absent)) i n l p r c f = f _ refl
not_shown h (meets (meet A B M least)) i n l p r c f = n _ refl
not_shown h (subfields k) i n l p r c f = l _ refl
not_shown h (minimal_polynomial k) i n l p r c f = p _ refl
not_shown h (minimal_over (minimal s k)) i n l p r c f = r _ refl
not_shown h (minimal_over (no_subfield absent)) i n l p r c f = f _ refl
not_shown h count i n l p r c f = c _ _ refl

-- ---- the line
has_answer : {operations : Operations} {L : Lattice} {variables : Variables} {command : Command}
    {q : Question} {outcome : Outcome} → Questions L variables command (Ok q)
    → IsShownAs L q outcome → HasOutcome operations L variables command outcome variables
has_answer (asked a) h = has_asked a h.answers h.shows

has_no_question : {operations : Operations} {L : Lattice} {variables : Variables} {command : Command}
    {refusal : SessionRefusal} → Questions L variables command (Err refusal)
    → HasOutcome operations L variables command (Refused refusal) variables
has_no_question (unknown (variable h)) = unknown_variable h
has_no_question (unknown (field known h)) = unknown_field known h

pub asks_question : {k : Knowledge} {q : Question} {outcome : Outcome} {line : Line} (L : Lattice)
    → IsSeen k L → IsShownAs L q outcome → line ≡ line_of outcome (length k.seen)
    → AsksTo k (Ok q) line
asks_question {k} {q} L s h marks = subst (AsksTo k (Ok q)) (sym marks)
    (λ operations variables command none questions. read none refl s.after (has_answer (questions L s) h))

pub asks_nothing : {k : Knowledge} {refusal : SessionRefusal} {line : Line} (L : Lattice) → IsSeen k L
    → line ≡ line_of (Refused refusal) (length k.seen) → AsksTo k (Err refusal) line
asks_nothing {k} {refusal} L s marks = subst (AsksTo k (Err refusal)) (sym marks)
    (λ operations variables command none questions. read none refl s.after (has_no_question (questions L s)))
