-- What the parts of a session's command do. No public clause cites this module.
--     HasSeen k, OverSeen k P, SomeSeen k P     there is a lattice that is seen; P holds of it
--     Sends variables value image sending     the values of two variables, or the first unknown one
--     Results operations L variables c value     what a command that stores comes to
--     Questions L variables c asked  what a command that only asks comes to
--     ComesBy operations k variables command value     the same over the lattice that is seen
--     ComesTo k variables command value     and by any operations
--     IsAsked question, IsShownAs L question outcome     questions of commands, and what is shown
--     Asked k command question, AsksTo k question line     the question of a command that only
--                                    asks, and the line of each that asks it
--     ChangesTo k request k' line    the line of each command that asks for this change
--     Embeds k variables from into value image k' line     the line of an embedding that sends one
--                                    value to another
--     KeepsTo k variables name value variables' line     the line of each command that stores this
--                                    under this name
--     PlaysAs k variables c variables' line     the line of a command that asks for no change
--     IsAnsweredBy, IsPlayed         what a command's call gives, with its line or for want of
--                                    memory, and what it leaves
use Rattle.std.specs.Prelude.{◌≡◌, ℕ, List, [], ◌∷◌, Result, Ok, Err, Some, None}
use Rattle.std.specs.List.{AllByRecursion}
use Rattle.alg_model.specs.Lattices.{Lattice}
use Rattle.lat_core.specs.declared.tagged.Sending.{Sending}
use Rattle.lat_core.specs.declared.questions.Question.{Question}
use Rattle.lat_core.specs.declared.questions.Question.TheVariants.{FieldNamed, FieldAt, Lift}
use Rattle.lat_core.specs.declared.questions.Answer.{Answer}
use Rattle.lat_core.specs.declared.outcomes.Outcome.{Outcome}
use Rattle.lat_core.specs.Answers.{Answers}
use Rattle.lat_core.specs.declared.requests.Request.{Request}
use Rattle.lat_core.specs.declared.outcomes.Line.{Line}
use Rattle.lat_core.specs.declared.outcomes.SessionRefusal.{SessionRefusal}
use Rattle.lat_core.specs.declared.outcomes.SessionRefusal.TheVariants.{UnknownField, UnknownVariable}
use Rattle.lat_core.specs.declared.memory.NoMemory.{NoMemory}
use Rattle.lat_core.specs.Histories.{Knowledge, IsKnowledge, IsUnplaced}
use Rattle.lat_language.specs.declared.commands.Command.{Command}
use Rattle.lat_language.specs.declared.commands.Command.TheVariants.{EmbedSending}
use Rattle.lat_session.specs.Variables.{Variables, IsVariable}
use Rattle.lat_session.specs.Commands.{operands, field_words, result_name, sending_of, request_of}
use Rattle.lat_session.specs.Outcomes.{IsFirstUnknown, IsFieldWord, Asks, Shows, Computed, Operations, Computes}
use Rattle.lat_session.specs.Playing.{IsSeen, PlaysOver}

abbrev pub OverSeen : Knowledge → (Lattice → Type 0) → Type 0
OverSeen k P = (L : Lattice) → IsSeen k L → P L

abbrev pub SomeSeen : Knowledge → (Lattice → Type 0) → Type 0
SomeSeen k P = (L : Lattice) × IsSeen k L × P L

abbrev pub HasSeen : Knowledge → Type 0
HasSeen k = (L : Lattice) × IsSeen k L

-- the first of a command's names that is unknown
pub data IsUnknown (L : Lattice) (variables : Variables) (command : Command)
    : SessionRefusal → Type 0 where
  variable : {name : List ℕ} → IsFirstUnknown (IsVariable variables) (operands command) name
      → IsUnknown L variables command (UnknownVariable name)
  field : {name : List ℕ} → AllByRecursion (IsVariable variables) (operands command)
      → IsFirstUnknown (IsFieldWord L) (field_words command) name
      → IsUnknown L variables command (UnknownField name)

-- an unknown name, or what is computed
pub data Results (operations : Operations) (L : Lattice) (variables : Variables)
    (command : Command) : Computed → Type 0 where
  unknown : {refusal : SessionRefusal} → IsUnknown L variables command refusal
      → Results operations L variables command (Err refusal)
  computed : {value : Computed} → Computes operations L variables command value
      → Results operations L variables command value

-- over the lattice that is seen, whatever the name of the result
abbrev pub ComesBy : Operations → Knowledge → Variables → (List ℕ → Command) → Computed → Type 0
ComesBy operations k variables command value = (name : List ℕ)
    → OverSeen k (λ L. Results operations L variables (command name) value)

-- and whatever the operations
abbrev pub ComesTo : Knowledge → Variables → (List ℕ → Command) → Computed → Type 0
ComesTo k variables command value = (operations : Operations)
    → ComesBy operations k variables command value

-- the first of two names that is no variable, or the values of both
pub data Sends (variables : Variables) (value image : List ℕ)
    : Result Sending SessionRefusal → Type 0 where
  unknown : {name : List ℕ} → IsFirstUnknown (IsVariable variables) (value ∷ image ∷ []) name
      → sending_of variables value image ≡ None
      → Sends variables value image (Err (UnknownVariable name))
  pair : {sending : Sending} → sending_of variables value image ≡ Some sending
      → Sends variables value image (Ok sending)

-- an unknown name, or the question
pub data Questions (L : Lattice) (variables : Variables) (command : Command)
    : Result Question SessionRefusal → Type 0 where
  unknown : {refusal : SessionRefusal} → IsUnknown L variables command refusal
      → Questions L variables command (Err refusal)
  asked : {question : Question} → Asks L variables command question
      → Questions L variables command (Ok question)

-- the questions that commands ask themselves
abbrev pub IsAsked : Question → Type 0
IsAsked (FieldNamed name) = ⊥
IsAsked (FieldAt n) = ⊥
IsAsked (Lift t j) = ⊥
IsAsked _ = Unit {0}

-- the answer to a question, as it is shown
pub record IsShownAs (L : Lattice) (question : Question) (outcome : Outcome) : Type 0 where
  pub answer : Answer
  pub answers : Answers L question answer
  pub shows : Shows L answer outcome

-- what a command with no operands comes to, whatever the variables
abbrev pub Asked : Knowledge → Command → Result Question SessionRefusal → Type 0
Asked k command question = (variables : Variables)
    → OverSeen k (λ L. Questions L variables command question)

-- for each command that asks this question
abbrev pub AsksTo : Knowledge → Result Question SessionRefusal → Line → Type 0
AsksTo k question line = (operations : Operations) (variables : Variables) (command : Command)
    → request_of variables command ≡ None
    → OverSeen k (λ L. Questions L variables command question)
    → PlaysOver operations k variables command k variables line

-- for each command with this request, whatever the variables
abbrev pub ChangesTo : Knowledge → Request → Knowledge → Line → Type 0
ChangesTo old request new line = (operations : Operations) (variables : Variables)
    (command : Command) → request_of variables command ≡ Some request
    → PlaysOver operations old variables command new variables line

-- a change, or a refusal
abbrev pub Embeds : Knowledge → Variables → List ℕ → List ℕ → List ℕ → List ℕ → Knowledge → Line
    → Type 0
Embeds old variables from into value image new line = (operations : Operations)
    → PlaysOver operations old variables (EmbedSending from into value image) new variables line

-- for each command that asks for no change, with this name for its result
abbrev pub KeepsTo : Knowledge → Variables → List ℕ → Computed → Variables → Line → Type 0
KeepsTo k variables name value after line = (operations : Operations) (command : Command)
    → request_of variables command ≡ None → result_name command ≡ Some name
    → OverSeen k (λ L. Results operations L variables command value)
    → PlaysOver operations k variables command k after line

-- whatever the operations
abbrev pub PlaysAs : Knowledge → Variables → Command → Variables → Line → Type 0
PlaysAs k variables command after line = (operations : Operations)
    → PlaysOver operations k variables command k after line

-- the line; or nothing was entered, and the variables are as before
abbrev pub IsAnsweredBy : Operations → Knowledge → Variables → Command → Knowledge → Variables
    → Result Line NoMemory → Type 0
IsAnsweredBy operations old variables command new after (Ok line) =
    PlaysOver operations old variables command new after line
IsAnsweredBy operations old variables command new after (Err e) =
    IsUnplaced old new × (after ≡ variables)

-- and what is known is knowledge, and the port's borrows are as before
pub record IsPlayed (operations : Operations) (old : Knowledge) (variables : Variables)
    (command : Command) (new : Knowledge) (after : Variables) (before now : List ℕ)
    (result : Result Line NoMemory) : Type 0 where
  pub answered : IsAnsweredBy operations old variables command new after result
  pub known : IsKnowledge new
  pub borrowed : now ≡ before
