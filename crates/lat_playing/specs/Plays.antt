-- Scripts that can be played, and what playing them gives.
--     IsPlayable script       its commands are proper, a history has room for them all, and there
--                             are not too many sessions
--     Performs edition operations script performance     the history and the lines of the script
--                             when it is played by its schedule; the book has room for as many
--                             entries as the script has commands
--     PerformsPrologue edition operations script performance     those of its prologue alone, over
--                             such a book
--     PerformsFairly edition operations script performance     those of the script when its
--                             sessions are played in some order
use Rattle.std.specs.Prelude.{◌≡◌, ℕ, ◌+◌, ◌≤◌, List, [], length, All}
use Rattle.alg_model.specs.Lattices as lattices
use Rattle.lat_language.specs.declared.scripts.Script.{Script}
use Rattle.lat_language.specs.declared.scripts.SessionScript.{SessionScript}
use Rattle.lat_language.specs.declared.scripts.TheConstants.{MAX_SESSIONS}
use Rattle.lat_language.specs.Grammar.{session_commands}
use Rattle.lat_session.specs.Commands.{IsProperCommand}
use Rattle.lat_session.specs.Outcomes.{Operations}
use Rattle.lat_history.specs.declared.TheConstants.{MAX_ROOM}
use Rattle.lat_playing.specs.declared.plays.Performance.{Performance}
use Rattle.lat_playing.specs.Worlds.{SessionState, World, session_at, only_prologue, rest, Runs, IsWorld, IsSolo}
use Rattle.lat_playing.specs.Transcripts.{lines_text, sessions_text}

-- fields are declared under declared names alone, and there are not too many commands and sessions
pub record IsPlayable (script : Script) : Type 0 where
  pub prologue : All IsProperCommand script.prologue
  pub sessions : All (λ (s : SessionScript). All IsProperCommand s.commands) script.sessions
  pub few : length script.prologue + session_commands script.sessions ≤ MAX_ROOM
  pub few_sessions : length script.sessions ≤ MAX_SESSIONS

-- the book has the history of the world after the schedule and the rest, and the lines are its own
pub record Performs (edition : lattices.Edition) (operations : Operations) (script : Script)
    (performance : Performance) : Type 0 where
  pub world : World
  pub solo : IsSolo edition operations script world
  pub of_edition : performance.book.edition ≡ edition
  pub room : performance.book.room
      ≡ length script.prologue + session_commands script.sessions
  pub history : performance.book.entries ≡ world.history
  pub lines : performance.lines.items ≡ sessions_text script world

-- the book has the history of the world after the prologue, and the lines are its own
pub record PerformsPrologue (edition : lattices.Edition) (operations : Operations)
    (script : Script) (performance : Performance) : Type 0 where
  pub prologue : World
  pub played : Runs edition operations (rest (only_prologue script.prologue))
      (only_prologue script.prologue) prologue
  pub of_edition : performance.book.edition ≡ edition
  pub room : performance.book.room
      ≡ length script.prologue + session_commands script.sessions
  pub history : performance.book.entries ≡ prologue.history
  pub lines : performance.lines.items ≡ lines_text (session_at prologue.sessions 0).lines

-- the book has the history of the world after some events, in which no command is left, and the
-- lines are its own
pub record PerformsFairly (edition : lattices.Edition) (operations : Operations)
    (script : Script) (performance : Performance) : Type 0 where
  pub events : List ℕ
  pub world : World
  pub is_world : IsWorld edition operations script events world
  pub none_left : All (λ (s : SessionState). s.left ≡ []) world.sessions
  pub of_edition : performance.book.edition ≡ edition
  pub room : performance.book.room
      ≡ length script.prologue + session_commands script.sessions
  pub history : performance.book.entries ≡ world.history
  pub lines : performance.lines.items ≡ sessions_text script world
