-- What a session's command does over a port.
--     IsSeen k L              L is the lattice after the entries that are seen
--     FitSeen k variables     the variables are values of fields of that lattice
--     PlaysOver operations old variables c new variables' line     the line of a command, and what
--                             is known and held afterwards
use Rattle.std.specs.Prelude.{◌≡◌, ℕ, length, Some, None}
use Rattle.alg_model.specs.Lattices.{Lattice, IsEdition}
use Rattle.lat_core.specs.declared.requests.Request.{Request}
use Rattle.lat_core.specs.declared.replies.Reply.{Reply}
use Rattle.lat_core.specs.declared.replies.ChangeFault.TheVariants as faults
use Rattle.lat_core.specs.declared.outcomes.Outcome.{Outcome}
use Rattle.lat_core.specs.declared.outcomes.Outcome.TheVariants.{Changed, Refused}
use Rattle.lat_core.specs.declared.outcomes.SessionRefusal.TheVariants.{HistoryFull}
use Rattle.lat_core.specs.declared.outcomes.Line.{Line}
use Rattle.lat_core.specs.Histories.{Knowledge, IsAfter, IsPlaced, IsUnplaced, IsRefusedBy}
use Rattle.lat_language.specs.declared.commands.Command.{Command}
use Rattle.lat_session.specs.Variables.{Variables, AreVariables}
use Rattle.lat_session.specs.Commands.{request_of}
use Rattle.lat_session.specs.Outcomes.{Operations, HasOutcome}

-- L is the lattice after what is seen, from an opening lattice of an edition
pub record IsSeen (k : Knowledge) (L : Lattice) : Type 0 where
  pub edition : IsEdition k.edition
  pub after : IsAfter k.edition k.seen L

-- these are variables over it
pub record FitSeen (k : Knowledge) (variables : Variables) : Type 0 where
  pub lattice : Lattice
  pub seen : IsSeen k lattice
  pub fit : AreVariables lattice variables

module _ (operations : Operations) where
  -- A change that was entered, and its place; a change for which the history has no room; an
  -- outcome over the lattice that is seen. The mark of the latter two is how many entries are seen.
  pub data PlaysOver (old : Knowledge) (variables : Variables) (command : Command)
      (new : Knowledge) : Variables → Line → Type 0 where
    change : {request : Request} {reply : Reply} {place : ℕ}
        → request_of variables command ≡ Some request → IsPlaced old new request reply place
        → PlaysOver old variables command new variables
        (record { outcome = Changed reply; mark = place })
    full : {request : Request} {n : ℕ} → request_of variables command ≡ Some request
        → IsUnplaced old new → IsRefusedBy new (faults.HistoryFull n)
        → PlaysOver old variables command new variables
        (record { outcome = Refused (HistoryFull n); mark = length new.seen })
    read : {L : Lattice} {outcome : Outcome} {after : Variables}
        → request_of variables command ≡ None → new ≡ old → IsAfter old.edition old.seen L
        → HasOutcome operations L variables command outcome after
        → PlaysOver old variables command new after
        (record { outcome = outcome; mark = length old.seen })
