-- What each kind of command does to what is known and to the variables.
use Rattle.std.proofs.Common.{◌≡◌, ℕ, List, [], refl, sym, subst, Some, None}
use Rattle.std.specs.Prelude.{Result, Ok, Err, IfOk, OnErr}
use Rattle.std.proofs.lemmas.List.{append-nil}
use Rattle.alg_model.specs.Lattices.{Lattice, IsCompatible}
use Rattle.lat_core.specs.declared.memory.NoMemory.{NoMemory}
use Rattle.lat_core.specs.declared.requests.Request.{Request}
use Rattle.lat_core.specs.declared.questions.Question.{Question}
use Rattle.lat_core.specs.declared.outcomes.Line.{Line}
use Rattle.lat_core.specs.declared.outcomes.SessionRefusal.{SessionRefusal}
use Rattle.lat_core.specs.Histories.{Knowledge, IsKnowledge, IsUnplaced}
use Rattle.lat_core.specs.Answers.{IsNumber}
use Rattle.lat_language.specs.declared.commands.Command.{Command}
use Rattle.lat_language.specs.declared.commands.Command.TheVariants.{EmbedSending}
use Rattle.lat_session.specs.Variables.{Variables, AreVariables}
use Rattle.lat_session.specs.Commands.{request_of, result_name}
use Rattle.lat_session.specs.Outcomes.{Computed, Operations, KeepsValues}
use Rattle.lat_session.specs.Playing.{FitSeen, PlaysOver}
use Rattle.lat_session.specs.PrivatePlaying.{OverSeen, Results, Questions, ChangesTo, Embeds, KeepsTo, PlaysAs, AsksTo, IsAnsweredBy, IsPlayed}
use Rattle.lat_session.specs.PrivatePlaying.Results.{computed}
use Rattle.lat_session.proofs.FittingValues.{computed_value}
use Rattle.lat_session.proofs.FittingPlays.{fit_after, fit_unplaced}

-- nothing was told
unplaced_itself : (k : Knowledge) → IsUnplaced k k
unplaced_itself k = record {
  same = record { number = refl; edition = refl; room = refl; alone = refl };
  others = [];
  are_others = record { none_own = refl; none_alone = λ _. refl };
  told = sym (append-nil k.told);
  seen = refl;
}

-- ---- a change
pub played_change : {operations : Operations} {old new : Knowledge} {variables : Variables}
    {command : Command} {request : Request} {before now : List ℕ} (result : Result Line NoMemory)
    → request_of variables command ≡ Some request → IfOk result (ChangesTo old request new)
    → OnErr result (IsUnplaced old new) → IsKnowledge new → now ≡ before
    → IsPlayed operations old variables command new variables before now result
played_change {operations} {variables = variables} {command = command} (Ok line) asks h u K b = record {
  answered = h operations variables command asks;
  known = K;
  borrowed = b;
}
played_change (Err e) asks h u K b = record { answered = (u, refl); known = K; borrowed = b }

pub played_embedding : {operations : Operations} {old new : Knowledge} {variables : Variables}
    {from into value image : List ℕ} {before now : List ℕ} (result : Result Line NoMemory)
    → IfOk result (Embeds old variables from into value image new)
    → OnErr result (IsUnplaced old new) → IsKnowledge new → now ≡ before
    → IsPlayed operations old variables (EmbedSending from into value image) new variables before now
    result
played_embedding {operations} (Ok line) h u K b = record {
  answered = h operations;
  known = K;
  borrowed = b;
}
played_embedding (Err e) h u K b = record { answered = (u, refl); known = K; borrowed = b }

-- ---- a result that is stored
pub played_result : {operations : Operations} {k : Knowledge} {variables after : Variables}
    {name : List ℕ} {value : Computed} (command : Command) (borrows : List ℕ)
    (result : Result Line NoMemory)
    → IsKnowledge k → request_of variables command ≡ None → result_name command ≡ Some name
    → OverSeen k (λ L. Results operations L variables command value)
    → IfOk result (KeepsTo k variables name value after) → OnErr result (after ≡ variables)
    → IsPlayed operations k variables command k after borrows borrows result
played_result {operations} command borrows (Ok line) K none named results h e = record {
  answered = h operations command none named results;
  known = K;
  borrowed = refl;
}
played_result {k = k} command borrows (Err x) K none named results h e = record {
  answered = (unplaced_itself k, e);
  known = K;
  borrowed = refl;
}

-- what is stored has the number of a field
pub results_number : {operations : Operations} {L : Lattice} {variables : Variables}
    {command : Command} (value : Computed) → KeepsValues operations → IsCompatible L
    → AreVariables L variables → Results operations L variables command value
    → IfOk value (λ t. IsNumber L t.field)
results_number (Ok t) keeps C V (computed c) = (computed_value C keeps V c).tag
results_number (Err refusal) keeps C V r = tt

-- ---- what is only asked or shown
pub played_question : {operations : Operations} {k : Knowledge} {variables : Variables}
    {question : Result Question SessionRefusal} {line : Line} (command : Command) (borrows : List ℕ)
    → IsKnowledge k → request_of variables command ≡ None
    → OverSeen k (λ L. Questions L variables command question) → AsksTo k question line
    → IsPlayed operations k variables command k variables borrows borrows (Ok line)
played_question {operations} {variables = variables} command borrows K none questions h = record {
  answered = h operations variables command none questions;
  known = K;
  borrowed = refl;
}

pub played_value : {operations : Operations} {k : Knowledge} {variables : Variables} {line : Line}
    (command : Command) (borrows : List ℕ) → IsKnowledge k
    → PlaysAs k variables command variables line
    → IsPlayed operations k variables command k variables borrows borrows (Ok line)
played_value {operations} command borrows K h = record {
  answered = h operations;
  known = K;
  borrowed = refl;
}

-- ---- the clauses of a command
module _ (operations : Operations) (old new : Knowledge) (variables after : Variables)
    (command : Command) where
  pub line_played : (result : Result Line NoMemory)
      → IsAnsweredBy operations old variables command new after result
      → IfOk result (PlaysOver operations old variables command new after)
  line_played (Ok line) h = h
  line_played (Err e) h = tt

  pub nothing_played : (result : Result Line NoMemory)
      → IsAnsweredBy operations old variables command new after result
      → OnErr result (IsUnplaced old new)
  nothing_played (Ok line) h = tt
  nothing_played (Err e) h = h.0

  pub variables_kept : (result : Result Line NoMemory)
      → IsAnsweredBy operations old variables command new after result
      → OnErr result (after ≡ variables)
  variables_kept (Ok line) h = tt
  variables_kept (Err e) h = h.1

  pub fit_played : (result : Result Line NoMemory) → KeepsValues operations → FitSeen old variables
      → IsKnowledge old → IsKnowledge new
      → IsAnsweredBy operations old variables command new after result → FitSeen new after
  fit_played (Ok line) keeps F K N h = fit_after keeps F K N h
  fit_played (Err e) keeps F K N h = subst (FitSeen new) (sym h.1) (fit_unplaced F N h.0)
