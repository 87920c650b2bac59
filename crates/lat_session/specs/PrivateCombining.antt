-- Values in other fields. No public clause cites this module.
--     IsCommonField L a b field       the common field of two fields, or why there is none
--     LiftsBoth L variables left right pair     the values of two variables in their common field,
--                                     or why they aren't
--     IsPrimeFieldOf L i q            q is the number of the prime field of field i
use Rattle.std.specs.Prelude.{ℕ, ◌<◌, List, [], ◌∷◌, length, Result, Ok, Err}
use Rattle.alg_model.specs.Lattices.{Lattice, Stored}
use Rattle.lat_core.specs.declared.tagged.Tagged.{Tagged}
use Rattle.lat_core.specs.declared.questions.CoerceFault.{CoerceFault}
use Rattle.lat_core.specs.declared.questions.Answer.TheVariants.{Is, Lifted, Refused}
use Rattle.lat_core.specs.declared.outcomes.SessionRefusal.{SessionRefusal}
use Rattle.lat_core.specs.declared.outcomes.SessionRefusal.TheVariants.{UnknownVariable}
use Rattle.lat_core.specs.Answers.{HasCommon, LiftsTo}
use Rattle.lat_session.specs.declared.pairs.Pair.{Pair}
use Rattle.lat_session.specs.Variables.{Variables, Holds, IsVariable}
use Rattle.lat_session.specs.Outcomes.{IsFirstUnknown, refusal_of}

-- the field, or why there is none
pub data IsCommonField (L : Lattice) (a b : ℕ) : Result ℕ SessionRefusal → Type 0 where
  field : {g : ℕ} → HasCommon L a b (Is g) → IsCommonField L a b (Ok g)
  none : {fault : CoerceFault} → HasCommon L a b (Refused fault)
      → IsCommonField L a b (Err (refusal_of fault))

-- the first that is no variable; else why there is no common field; else both values there
pub data LiftsBoth (L : Lattice) (variables : Variables) (left right : List ℕ)
    : Result Pair SessionRefusal → Type 0 where
  unknown : {name : List ℕ} → IsFirstUnknown (IsVariable variables) (left ∷ right ∷ []) name
      → LiftsBoth L variables left right (Err (UnknownVariable name))
  apart : {a b : Tagged} {fault : CoerceFault} → Holds variables left a → Holds variables right b
      → HasCommon L a.field b.field (Refused fault)
      → LiftsBoth L variables left right (Err (refusal_of fault))
  both : {a b : Tagged} {pair : Pair} → Holds variables left a → Holds variables right b
      → HasCommon L a.field b.field (Is pair.first.field)
      → LiftsTo L a pair.first.field (Lifted pair.first)
      → LiftsTo L b pair.first.field (Lifted pair.second)
      → LiftsBoth L variables left right (Ok pair)

-- the prime fields come first
pub record IsPrimeFieldOf (L : Lattice) (i q : ℕ) : Type 0 where
  pub prime : q < length L.edition.primes
  pub map : List (List ℕ)
  pub stored : Stored L q i map
