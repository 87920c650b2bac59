-- What holds of commands and their outcomes, as statements.
use Rattle.std.specs.Prelude.{◌≡◌, None}
use Rattle.alg_model.specs.Lattices.{Lattice, IsCompatible}
use Rattle.lat_core.specs.declared.outcomes.Outcome.{Outcome}
use Rattle.lat_language.specs.declared.commands.Command.{Command}
use Rattle.lat_session.specs.Variables.{Variables, AreVariables}
use Rattle.lat_session.specs.Commands.{request_of}
use Rattle.lat_session.specs.Outcomes.{Operations, KeepsValues, HasOutcome}

-- Over a compatible lattice and variables that fit it, a command that asks for no change has an
-- outcome.
abbrev pub CommandHasOutcome : Type 0
CommandHasOutcome = (operations : Operations) (L : Lattice) (variables : Variables)
    (command : Command) → IsCompatible L → AreVariables L variables
    → request_of variables command ≡ None
    → (outcome : Outcome) × (after : Variables)
    × HasOutcome operations L variables command outcome after

-- It has only one, and leaves only one set of variables.
abbrev pub CommandHasOneOutcome : Type 0
CommandHasOneOutcome = (operations : Operations) (L : Lattice) (variables : Variables)
    (command : Command) (outcome other : Outcome) (after also : Variables) → IsCompatible L
    → AreVariables L variables → HasOutcome operations L variables command outcome after
    → HasOutcome operations L variables command other also
    → (outcome ≡ other) × (after ≡ also)

-- The variables afterwards fit the lattice, where the operations give values.
abbrev pub OutcomeKeepsVariables : Type 0
OutcomeKeepsVariables = (operations : Operations) (L : Lattice) (variables after : Variables)
    (command : Command) (outcome : Outcome) → KeepsValues operations → IsCompatible L
    → AreVariables L variables → HasOutcome operations L variables command outcome after
    → AreVariables L after
