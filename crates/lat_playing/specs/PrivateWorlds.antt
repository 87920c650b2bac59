-- What holds of each world on its way. No public clause cites this module.
--     IsFitted edition history variables front     the variables are values over the lattice after
--                             the entries that are seen
--     CanGoOn edition history s     a session can play what is left to it
--     IsSound edition w       the history is legal, and all sessions can go on
--     left_at w n, lines_at w n     how many commands are left to session n, and its lines
use Rattle.std.specs.Prelude.{ℕ, ◌≤◌, List, length, take, All}
use Rattle.alg_model.specs.Lattices as lattices
use Rattle.alg_model.specs.Lattices.{Lattice}
use Rattle.lat_core.specs.declared.replies.Entry.{Entry}
use Rattle.lat_core.specs.declared.outcomes.Line.{Line}
use Rattle.lat_core.specs.Histories.{IsAfter, IsLegal}
use Rattle.lat_session.specs.Variables.{Variables, AreVariables}
use Rattle.lat_session.specs.Commands.{IsProperCommand}
use Rattle.lat_playing.specs.Worlds.{SessionState, World, session_at}

module _ (edition : lattices.Edition) where
  -- there are as many entries as the session has seen
  pub record IsFitted (history : List Entry) (variables : Variables) (front : ℕ) : Type 0 where
    pub within : front ≤ length history
    pub fit : (L : Lattice) → IsAfter edition (take front history) L → AreVariables L variables

  -- and all its commands are proper
  pub record CanGoOn (history : List Entry) (s : SessionState) : Type 0 where
    pub fitted : IsFitted history s.variables s.front
    pub proper : All IsProperCommand s.left

  -- past the last session stands one with nothing to do
  pub record IsSound (w : World) : Type 0 where
    pub legal : IsLegal edition w.history
    pub each : (n : ℕ) → CanGoOn w.history (session_at w.sessions n)

abbrev pub left_at : World → ℕ → ℕ
left_at w n = length (session_at w.sessions n).left

abbrev pub lines_at : World → ℕ → List Line
lines_at w n = (session_at w.sessions n).lines
