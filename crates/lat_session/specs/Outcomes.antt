-- What a command that asks for no change is answered, and the variables afterwards.
--     IsFirstUnknown IsKnown names name     the first of the names that isn't known
--     Asks L variables c question           a command that only asks, and its question
--     Shows L answer outcome                how the answer is shown
--     Reads, Combines, Inverts, Lifts       a value that is computed, or why there is none
--     IsInPrimeField L i v c                c is the value v of field i, in the prime field
--     Operations                            what the operations of a session are
--     operations_of first second third      the operations of three tables
--     KeepsValues operations                they give values of the field of their operand
--     Computes operations L variables c computed     a command that stores: its value, or why it
--                                           has none
--     HasOutcome operations L variables c outcome new     the outcome, and the variables afterwards
use Rattle.std.specs.Prelude.{◌≡◌, ℕ, ◌<◌, ◌≤◌, List, ◌∷◌, length, slice_index_or, All, Some, Result, Ok, Err}
use Rattle.std.specs.List.{AllByRecursion}
use Rattle.std.specs.FinMap.{insert}
use Rattle.alg_model.specs.Coefficients.{Ops, power, mod_ops}
use Rattle.alg_model.specs.Values.{padded}
use Rattle.alg_model.specs.Maps as maps
use Rattle.alg_model.specs.Maps.{IsFiniteField, field_values, degree_of}
use Rattle.alg_model.specs.Conjugates.{trace, norm}
use Rattle.alg_model.specs.Lattices.{Lattice, no_row, field_at, Stored}
use Rattle.ff_poly.specs.Polynomial.{Polynomial}
use Rattle.ff_field.specs.SmallFields.{IsFirstTooLarge}
use Rattle.lat_core.specs.declared.tagged.Tagged.{Tagged}
use Rattle.lat_core.specs.declared.questions.Question.{Question}
use Rattle.lat_core.specs.declared.questions.Question.TheVariants as questions
use Rattle.lat_core.specs.declared.questions.CoerceFault.{CoerceFault}
use Rattle.lat_core.specs.declared.questions.CoerceFault.TheVariants as faults
use Rattle.lat_core.specs.declared.questions.Answer.{Answer}
use Rattle.lat_core.specs.declared.questions.Answer.TheVariants as answers
use Rattle.lat_core.specs.declared.outcomes.Outcome.{Outcome}
use Rattle.lat_core.specs.declared.outcomes.Outcome.TheVariants as outcomes
use Rattle.lat_core.specs.declared.outcomes.SessionRefusal.{SessionRefusal}
use Rattle.lat_core.specs.declared.outcomes.SessionRefusal.TheVariants.{CoefficientTooLarge, UnknownField, NotEmbedded, NotInImage, NoCommonField, UnknownVariable, ZeroInverse, TooManyVariables, TooManyCoefficients}
use Rattle.lat_core.specs.Step.{IsNamed}
use Rattle.lat_core.specs.Answers.{IsSentTo, LiftsTo, HasCommon, Answers}
use Rattle.natural_ops.specs.Operations.{value_at}
use Rattle.lat_language.specs.declared.commands.Op.{Op}
use Rattle.lat_language.specs.declared.commands.Op.TheVariants.{First, Second, Third}
use Rattle.lat_language.specs.declared.commands.Command.{Command}
use Rattle.lat_language.specs.declared.commands.Command.TheVariants.{Let, Add, Mul, Inv, Pow, Frob, Trace, Norm, Lift, Apply, Show, Map, Meet, Common, MinPoly, MinPolyOver, Count}
use Rattle.lat_language.specs.declared.commands.Command.TheVariants as commands
use Rattle.lat_session.specs.Variables.{Variables, Holds, IsVariable, IsFullFor}
use Rattle.lat_session.specs.Commands.{operands, field_words, result_name}

-- ---- names
-- those before it are known
pub data IsFirstUnknown (IsKnown : List ℕ → Type 0) : List (List ℕ) → List ℕ → Type 0 where
  here : {name : List ℕ} {names : List (List ℕ)} → ¬ IsKnown name
      → IsFirstUnknown IsKnown (name ∷ names) name
  later : {name unknown : List ℕ} {names : List (List ℕ)} → IsKnown name
      → IsFirstUnknown IsKnown names unknown → IsFirstUnknown IsKnown (name ∷ names) unknown

-- some field has this name
abbrev pub IsFieldWord : Lattice → List ℕ → Type 0
IsFieldWord L name = (n : ℕ) × IsNamed L n name

-- ---- commands that only ask
-- the question, once all names are known
pub data Asks (L : Lattice) (variables : Variables) : Command → Question → Type 0 where
  map : {from into : List ℕ} {i j : ℕ} → IsNamed L i from → IsNamed L j into
      → Asks L variables (Map from into) (questions.Map i j)
  meet : {first second within : List ℕ} {i j k : ℕ} → IsNamed L i first → IsNamed L j second
      → IsNamed L k within → Asks L variables (Meet first second within) (questions.Meet i j k)
  common : {first second : List ℕ} {a b : ℕ} → IsNamed L a first → IsNamed L b second
      → Asks L variables (Common first second) (questions.Common a b)
  minimal_polynomial : {value : List ℕ} {t : Tagged} → Holds variables value t
      → Asks L variables (MinPoly value) (questions.MinPoly t)
  minimal_over : {value over : List ℕ} {t : Tagged} {n : ℕ} → Holds variables value t
      → IsNamed L n over → Asks L variables (MinPolyOver value over) (questions.MinPolyOver t n)
  subfields : {field : List ℕ} {k : ℕ} → IsNamed L k field
      → Asks L variables (commands.List field) (questions.Subfields k)
  count : Asks L variables Count questions.Count

-- why a question about values has no answer is why the command is refused
abbrev pub refusal_of : CoerceFault → SessionRefusal
refusal_of (faults.NotEmbedded i j) = NotEmbedded i j
refusal_of faults.NotInImage = NotInImage
refusal_of (faults.NoCommonField a b) = NoCommonField a b

abbrev pub name_at : Lattice → ℕ → List ℕ
name_at L n = (slice_index_or L.rows n no_row).name

-- the answer itself; a field by its name
pub data Shows (L : Lattice) : Answer → Outcome → Type 0 where
  image : {v : List ℕ} → Shows L (answers.Image v) (outcomes.Image v)
  named : {n : ℕ} → Shows L (answers.Is n) (outcomes.Named (name_at L n))
  numbers : {ns : List ℕ} → Shows L (answers.Numbers ns) (outcomes.Numbers ns)
  polynomial : {f : Polynomial} → Shows L (answers.Poly f) (outcomes.Poly f)
  over_field : {g : List (List ℕ)} → Shows L (answers.RelPoly g) (outcomes.RelPoly g)
  counted : {fields maps : ℕ} → Shows L (answers.Counted fields maps)
      (outcomes.Counted fields maps)
  refused : {fault : CoerceFault} → Shows L (answers.Refused fault)
      (outcomes.Refused (refusal_of fault))

-- ---- commands that store
-- v as a value of field i
abbrev pub tagged : ℕ → List ℕ → Tagged
tagged i v = record { field = i; value = v }

-- what is computed, or why it isn't
abbrev pub Computed : Type 0
Computed = Result Tagged SessionRefusal

-- digits as a value of field i: there are too many; else one is too large; else zeros follow them
pub data Reads (L : Lattice) (i : ℕ) (digits : List ℕ) : Computed → Type 0 where
  too_many : degree_of (field_at L.rows i) < length digits
      → Reads L i digits (Err (TooManyCoefficients (length digits)))
  too_large : {place : ℕ} → length digits ≤ degree_of (field_at L.rows i)
      → IsFirstTooLarge (field_at L.rows i).characteristic digits place
      → Reads L i digits (Err (CoefficientTooLarge place))
  value : length digits ≤ degree_of (field_at L.rows i)
      → All (λ c. c < (field_at L.rows i).characteristic) digits
      → Reads L i digits (Ok (tagged i (padded (mod_ops (field_at L.rows i).characteristic)
      (degree_of (field_at L.rows i)) digits)))

-- there is no common field; else both are lifted to it, and the operation is that of its values
pub data Combines (L : Lattice) (operation : Ops (List ℕ) → List ℕ → List ℕ → List ℕ)
    (a b : Tagged) : Computed → Type 0 where
  no_common_field : {fault : CoerceFault} → HasCommon L a.field b.field (answers.Refused fault)
      → Combines L operation a b (Err (refusal_of fault))
  value : {g : ℕ} {v w : List ℕ} → HasCommon L a.field b.field (answers.Is g)
      → LiftsTo L a g (answers.Lifted (tagged g v)) → LiftsTo L b g (answers.Lifted (tagged g w))
      → Combines L operation a b
      (Ok (tagged g (operation (field_values (field_at L.rows g)).ops v w)))

-- zero has no inverse; else the inverse in the field of t
pub data Inverts (L : Lattice) (t : Tagged) : Computed → Type 0 where
  zero : t.value ≡ (field_values (field_at L.rows t.field)).ops.zero
      → Inverts L t (Err ZeroInverse)
  value : {b : List ℕ} → (field_values (field_at L.rows t.field)).Valid b
      → (field_values (field_at L.rows t.field)).ops.mul t.value b
      ≡ (field_values (field_at L.rows t.field)).ops.one
      → Inverts L t (Ok (tagged t.field b))

-- c is the value of a prime field whose image in field i is v
pub record IsInPrimeField (L : Lattice) (i : ℕ) (v : List ℕ) (c : Tagged) : Type 0 where
  pub prime : c.field < length L.edition.primes
  pub map : List (List ℕ)
  pub stored : Stored L c.field i map
  pub image : IsSentTo L c.field i map c.value v

-- the value in field j
pub data Lifts (L : Lattice) (t : Tagged) (j : ℕ) : Computed → Type 0 where
  not_lifted : {fault : CoerceFault} → LiftsTo L t j (answers.Refused fault)
      → Lifts L t j (Err (refusal_of fault))
  value : {u : Tagged} → LiftsTo L t j (answers.Lifted u) → Lifts L t j (Ok u)

-- the value of each operation at a value of a field
abbrev pub Operations : Type 0
Operations = Op → maps.Field → List ℕ → List ℕ

-- three tables of polynomials, by the names of the operations
abbrev pub operations_of : List Polynomial → List Polynomial → List Polynomial → Operations
operations_of first second third First = value_at first
operations_of first second third Second = value_at second
operations_of first second third Third = value_at third

-- what an operation gives at a value of a field is a value of that field
abbrev pub KeepsValues : Operations → Type 0
KeepsValues operations = (op : Op) (K : maps.Field) (a : List ℕ) → IsFiniteField K
    → (field_values K).Valid a → (field_values K).Valid (operations op K a)

module _ (operations : Operations) where
  -- once all names are known
  pub data Computes (L : Lattice) (variables : Variables) : Command → Computed → Type 0 where
    of_let : {result field digits : List ℕ} {i : ℕ} {computed : Computed} → IsNamed L i field
        → Reads L i digits computed → Computes L variables (Let result field digits) computed
    of_add : {result left right : List ℕ} {a b : Tagged} {computed : Computed}
        → Holds variables left a → Holds variables right b → Combines L (λ o. o.add) a b computed
        → Computes L variables (Add result left right) computed
    of_mul : {result left right : List ℕ} {a b : Tagged} {computed : Computed}
        → Holds variables left a → Holds variables right b → Combines L (λ o. o.mul) a b computed
        → Computes L variables (Mul result left right) computed
    of_inv : {result value : List ℕ} {t : Tagged} {computed : Computed} → Holds variables value t
        → Inverts L t computed → Computes L variables (Inv result value) computed
    of_pow : {result value : List ℕ} {t : Tagged} {exponent : ℕ} → Holds variables value t
        → Computes L variables (Pow result value exponent) (Ok (tagged t.field
        (power (field_values (field_at L.rows t.field)).ops t.value exponent)))
    of_frob : {result value : List ℕ} {t : Tagged} → Holds variables value t
        → Computes L variables (Frob result value) (Ok (tagged t.field
        (power (field_values (field_at L.rows t.field)).ops t.value
        (field_at L.rows t.field).characteristic)))
    of_trace : {result value : List ℕ} {t c : Tagged} → Holds variables value t
        → IsInPrimeField L t.field (trace (field_at L.rows t.field) t.value) c
        → Computes L variables (Trace result value) (Ok c)
    of_norm : {result value : List ℕ} {t c : Tagged} → Holds variables value t
        → IsInPrimeField L t.field (norm (field_at L.rows t.field) t.value) c
        → Computes L variables (Norm result value) (Ok c)
    of_lift : {result value to : List ℕ} {t : Tagged} {j : ℕ} {computed : Computed}
        → Holds variables value t → IsNamed L j to → Lifts L t j computed
        → Computes L variables (Lift result value to) computed
    of_apply : {result value : List ℕ} {op : Op} {t : Tagged} → Holds variables value t
        → Computes L variables (Apply result op value) (Ok (tagged t.field
        (operations op (field_at L.rows t.field) t.value)))

  -- The first operand that is no variable; else the first field word that names no field; else what
  -- is asked, or shown, or why nothing can be computed; else what is computed, once it is stored.
  pub data HasOutcome (L : Lattice) (variables : Variables) (command : Command)
      : Outcome → Variables → Type 0 where
    unknown_variable : {name : List ℕ}
        → IsFirstUnknown (IsVariable variables) (operands command) name
        → HasOutcome L variables command (outcomes.Refused (UnknownVariable name)) variables
    unknown_field : {name : List ℕ}
        → AllByRecursion (IsVariable variables) (operands command)
        → IsFirstUnknown (IsFieldWord L) (field_words command) name
        → HasOutcome L variables command (outcomes.Refused (UnknownField name)) variables
    asked : {question : Question} {answer : Answer} {outcome : Outcome}
        → Asks L variables command question → Answers L question answer → Shows L answer outcome
        → HasOutcome L variables command outcome variables
    shown : {value : List ℕ} {t : Tagged} → command ≡ Show value → Holds variables value t
        → HasOutcome L variables command (outcomes.Val (name_at L t.field) t.value) variables
    refused : {refusal : SessionRefusal} → Computes L variables command (Err refusal)
        → HasOutcome L variables command (outcomes.Refused refusal) variables
    full : {t : Tagged} {name : List ℕ} → Computes L variables command (Ok t)
        → result_name command ≡ Some name → IsFullFor variables name
        → HasOutcome L variables command (outcomes.Refused TooManyVariables) variables
    stored : {t : Tagged} {name : List ℕ} → Computes L variables command (Ok t)
        → result_name command ≡ Some name → ¬ IsFullFor variables name
        → HasOutcome L variables command (outcomes.Val (name_at L t.field) t.value)
        (insert variables name t)
