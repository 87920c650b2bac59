-- How the sessions of a script are played over one history.
--     HasLine n history variables front c history' variables' front' line     what a command of
--                             session n is answered, and what it leaves
--     SessionState, World     a session on its way, and all of them with their history
--     PlaysNext n history s history' s'     session n plays the next of its commands
--     Happens n w w'          the same in a world; nothing where no command is left
--     Runs events w w'        sessions play one command each, in this order
--     rest w                  the events after which nothing is left, session after session
--     IsWorld script events w     w is the world after the prologue and these events
--     IsSolo script w         w is the world after the schedule, and then the rest
use Rattle.std.specs.Prelude.{◌≡◌, ℕ, suc, ◌+◌, ◌<◌, List, [], ◌∷◌, ◌++◌, length, map, take, set, replicate, slice_index_or, Some, None}
use Rattle.std.specs.FinMap.{empty}
use Rattle.alg_model.specs.Lattices as lattices
use Rattle.alg_model.specs.Lattices.{Lattice}
use Rattle.lat_core.specs.declared.requests.Request.{Request}
use Rattle.lat_core.specs.declared.replies.Reply.{Reply}
use Rattle.lat_core.specs.declared.replies.Entry.{Entry}
use Rattle.lat_core.specs.declared.outcomes.Outcome.{Outcome}
use Rattle.lat_core.specs.declared.outcomes.Outcome.TheVariants.{Changed}
use Rattle.lat_core.specs.declared.outcomes.Line.{Line}
use Rattle.lat_core.specs.Step.{Steps}
use Rattle.lat_core.specs.Histories.{IsAfter}
use Rattle.lat_language.specs.declared.commands.Command.{Command}
use Rattle.lat_language.specs.declared.scripts.Script.{Script}
use Rattle.lat_language.specs.declared.scripts.SessionScript.{SessionScript}
use Rattle.lat_session.specs.Variables.{Variables}
use Rattle.lat_session.specs.Commands.{request_of}
use Rattle.lat_session.specs.Outcomes.{Operations, HasOutcome}

-- A session on its way: its variables, how many entries of the history it has seen, the commands
-- that are left to it, and the lines of those that it has played.
pub record SessionState : Type 0 where
  pub variables : Variables
  pub front : ℕ
  pub left : List Command
  pub lines : List Line

-- the changes so far, and the sessions; the prologue is session 0
pub record World : Type 0 where
  pub history : List Entry
  pub sessions : List SessionState

-- a session with no variables, which has seen all entries
abbrev pub new_session : ℕ → List Command → SessionState
new_session entries commands =
    record { variables = empty; front = entries; left = commands; lines = [] }

abbrev pub session_at : List SessionState → ℕ → SessionState
session_at sessions n = slice_index_or sessions n (new_session 0 [])

-- a prologue, before its first command
abbrev pub only_prologue : List Command → World
only_prologue commands = record { history = []; sessions = new_session 0 commands ∷ [] }

-- the sessions of the script open, and see all entries of the prologue
abbrev pub open_sessions : Script → World → World
open_sessions script w = record {
  history = w.history;
  sessions = w.sessions
      ++ map (λ (s : SessionScript). new_session (length w.history) s.commands) script.sessions;
}

-- the number of each session, from n on, as often as it has commands left
abbrev pub rest_from : ℕ → List ℕ → List ℕ
rest_from n [] = []
rest_from n (count ∷ counts) = replicate count n ++ rest_from (suc n) counts

abbrev pub rest : World → List ℕ
rest w = rest_from 0 (map (λ (s : SessionState). length s.left) w.sessions)

module _ (edition : lattices.Edition) (operations : Operations) where
  -- A change is answered by the step from the lattice after the history, whose last entry it is
  -- then; its mark is the place of the entry, and the session has seen all up to it. Any other
  -- command has its outcome over the lattice after the entries that the session has seen; its mark
  -- is how many these are.
  pub data HasLine (n : ℕ) (history : List Entry) (variables : Variables) (front : ℕ)
      (command : Command) : List Entry → Variables → ℕ → Line → Type 0 where
    change : {request : Request} {reply : Reply} {L : Lattice} (M : Lattice)
        → request_of variables command ≡ Some request → IsAfter edition history L
        → Steps L request reply M → HasLine n history variables front command
        (history ++ record { session = n; request = request; reply = reply } ∷ [])
        variables (length history + 1) (record { outcome = Changed reply; mark = length history })
    read : {L : Lattice} {outcome : Outcome} {after : Variables}
        → request_of variables command ≡ None → IsAfter edition (take front history) L
        → HasOutcome operations L variables command outcome after
        → HasLine n history variables front command history after front
        (record { outcome = outcome; mark = front })

  -- the first of the commands that are left has its line
  pub record PlaysNext (n : ℕ) (history : List Entry) (s : SessionState) (history' : List Entry)
      (s' : SessionState) : Type 0 where
    pub command : Command
    pub line : Line
    pub next : s.left ≡ command ∷ s'.left
    pub has_line : HasLine n history s.variables s.front command history' s'.variables s'.front
        line
    pub lines : s'.lines ≡ s.lines ++ line ∷ []

  -- session n plays its next command, or has none left
  pub data Happens (n : ℕ) (w : World) : World → Type 0 where
    nothing : (session_at w.sessions n).left ≡ [] → Happens n w w
    plays : {history' : List Entry} {s' : SessionState} → n < length w.sessions
        → PlaysNext n w.history (session_at w.sessions n) history' s'
        → Happens n w (record { history = history'; sessions = set w.sessions n s' })

  -- sessions by their numbers, one event after the other
  abbrev pub Runs : List ℕ → World → World → Type 0
  Runs [] w w' = w' ≡ w
  Runs (n ∷ events) w w' = (v : World) × Happens n w v × Runs events v w'

  -- the whole prologue is played; then the sessions open, and the events happen
  pub record IsWorld (script : Script) (events : List ℕ) (w : World) : Type 0 where
    pub prologue : World
    pub played : Runs (rest (only_prologue script.prologue)) (only_prologue script.prologue)
        prologue
    pub runs : Runs events (open_sessions script prologue) w

  -- the events of the schedule, which counts the sessions without the prologue; then the rest
  pub record IsSolo (script : Script) (w : World) : Type 0 where
    pub scheduled : World
    pub is_world : IsWorld script (map (λ place. place + 1) script.schedule) scheduled
    pub runs : Runs (rest scheduled) scheduled w
