-- One session by itself: how its lines answer its commands over the whole history.
--     IsAnswered n history variables front c line variables' front'     the line answers a command
--                             of session n, and what the session holds and has seen then
--     AreAnswered n history variables front commands lines     each line answers its command, one
--                             after the other
--     commands_of script n    the commands of session n; the prologue is session 0
--     opening_front entries n     how many entries session n has seen when it opens, where the
--                             prologue has made so many
use Rattle.std.specs.Prelude.{◌≡◌, ℕ, zero, suc, ◌+◌, ◌≤◌, List, [], ◌∷◌, map, take, slice_get, slice_index_or, Some, None}
use Rattle.alg_model.specs.Lattices as lattices
use Rattle.alg_model.specs.Lattices.{Lattice}
use Rattle.lat_core.specs.declared.requests.Request.{Request}
use Rattle.lat_core.specs.declared.replies.Reply.{Reply}
use Rattle.lat_core.specs.declared.replies.Entry.{Entry}
use Rattle.lat_core.specs.declared.outcomes.Outcome.TheVariants.{Changed}
use Rattle.lat_core.specs.declared.outcomes.Line.{Line}
use Rattle.lat_core.specs.Histories.{IsAfter}
use Rattle.lat_language.specs.declared.commands.Command.{Command}
use Rattle.lat_language.specs.declared.scripts.Script.{Script}
use Rattle.lat_language.specs.declared.scripts.SessionScript.{SessionScript}
use Rattle.lat_session.specs.Variables.{Variables}
use Rattle.lat_session.specs.Commands.{request_of}
use Rattle.lat_session.specs.Outcomes.{Operations, HasOutcome}

module _ (edition : lattices.Edition) (operations : Operations) (n : ℕ) (history : List Entry) where
  -- A change is the session's entry at its mark, which it has not seen before, and then has seen.
  -- Any other command has its outcome over the lattice after what the session has seen.
  pub data IsAnswered (variables : Variables) (front : ℕ) (command : Command) (line : Line)
      : Variables → ℕ → Type 0 where
    change : {request : Request} {reply : Reply} → request_of variables command ≡ Some request
        → line.outcome ≡ Changed reply → front ≤ line.mark
        → slice_get history line.mark
        ≡ Some (record { session = n; request = request; reply = reply })
        → IsAnswered variables front command line variables (line.mark + 1)
    read : {L : Lattice} {after : Variables} → request_of variables command ≡ None
        → line.mark ≡ front → IsAfter edition (take front history) L
        → HasOutcome operations L variables command line.outcome after
        → IsAnswered variables front command line after front

  -- there are as many lines as commands
  abbrev pub AreAnswered : Variables → ℕ → List Command → List Line → Type 0
  AreAnswered variables front [] [] = Unit {0}
  AreAnswered variables front (command ∷ commands) (line ∷ lines) =
      (after : Variables) × (seen : ℕ) × IsAnswered variables front command line after seen
      × AreAnswered after seen commands lines
  AreAnswered _ _ _ _ = ⊥

abbrev pub commands_of : Script → ℕ → List Command
commands_of script zero = script.prologue
commands_of script (suc k) =
    slice_index_or (map (λ (s : SessionScript). s.commands) script.sessions) k []

abbrev pub opening_front : ℕ → ℕ → ℕ
opening_front entries zero = 0
opening_front entries (suc k) = entries
