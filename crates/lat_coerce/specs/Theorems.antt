-- What holds of questions and their answers, as statements.
use Rattle.std.specs.Prelude.{◌≡◌, ◌≢◌, ℕ}
use Rattle.alg_model.specs.Lattices.{Lattice, Grows, IsCompatible}
use Rattle.lat_core.specs.declared.tagged.Tagged.{Tagged}
use Rattle.lat_core.specs.declared.questions.Question.{Question}
use Rattle.lat_core.specs.declared.questions.CoerceFault.TheVariants.{NotEmbedded}
use Rattle.lat_core.specs.declared.questions.Answer.{Answer}
use Rattle.lat_core.specs.declared.questions.Answer.TheVariants.{Lifted, Refused}
use Rattle.lat_core.specs.Answers.{IsTaggedValue, Fits, LiftsTo, Answers}

-- Each question that fits a compatible lattice has an answer.
abbrev pub QuestionHasAnswer : Type 0
QuestionHasAnswer = (L : Lattice) (question : Question) → IsCompatible L → Fits L question
    → (answer : Answer) × Answers L question answer

-- It has only one.
abbrev pub QuestionHasOneAnswer : Type 0
QuestionHasOneAnswer = (L : Lattice) (question : Question) (answer other : Answer) → IsCompatible L
    → Fits L question → Answers L question answer → Answers L question other → answer ≡ other

-- The value that a lift gives is one of the field that it was asked for.
abbrev pub LiftGivesValue : Type 0
LiftGivesValue = (L : Lattice) (t s : Tagged) (j : ℕ) → IsCompatible L → IsTaggedValue L t
    → LiftsTo L t j (Lifted s) → (s.field ≡ j) × IsTaggedValue L s

-- And lifted back it is the value that was lifted, whether the lift went up or down.
abbrev pub LiftLeadsBack : Type 0
LiftLeadsBack = (L : Lattice) (t s : Tagged) (j : ℕ) (answer : Answer) → IsCompatible L
    → IsTaggedValue L t → LiftsTo L t j (Lifted s) → LiftsTo L s t.field answer
    → answer ≡ Lifted t

-- Where a lift isn't refused for want of both maps, its answer stays in each compatible lattice
-- that grows from this one: the value, and the refusal of a value that isn't in the image.
abbrev pub AnsweredLiftStays : Type 0
AnsweredLiftStays = (L M : Lattice) (t : Tagged) (j : ℕ) (answer : Answer) → IsCompatible L
    → IsCompatible M → Grows L M → LiftsTo L t j answer
    → answer ≢ Refused (NotEmbedded t.field j) → LiftsTo M t j answer
