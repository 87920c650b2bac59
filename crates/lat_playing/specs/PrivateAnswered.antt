-- How far a session has come. No public clause cites this module.
--     Answers n history variables front commands lines after seen     the lines answer the
--                             commands, and what the session holds and has seen then
--     Stands history n commands front s     so a session stands that began with these commands and
--                             had seen so much
use Rattle.std.specs.Prelude.{◌≡◌, ℕ, ◌≤◌, List, [], ◌∷◌, ◌++◌, length}
use Rattle.std.specs.FinMap.{empty}
use Rattle.alg_model.specs.Lattices as lattices
use Rattle.lat_core.specs.declared.replies.Entry.{Entry}
use Rattle.lat_core.specs.declared.outcomes.Line.{Line}
use Rattle.lat_language.specs.declared.commands.Command.{Command}
use Rattle.lat_session.specs.Variables.{Variables}
use Rattle.lat_session.specs.Outcomes.{Operations}
use Rattle.lat_playing.specs.Worlds.{SessionState}
use Rattle.lat_playing.specs.Answered.{IsAnswered}

module _ (edition : lattices.Edition) (operations : Operations) (n : ℕ) (history : List Entry) where
  abbrev pub Answers : Variables → ℕ → List Command → List Line → Variables → ℕ → Type 0
  Answers variables front [] [] after seen = (after ≡ variables) × (seen ≡ front)
  Answers variables front (command ∷ commands) (line ∷ lines) after seen =
      (v : Variables) × (f : ℕ)
      × IsAnswered edition operations n history variables front command line v f
      × Answers v f commands lines after seen
  Answers _ _ _ _ _ _ = ⊥

  -- some of the commands are answered, and the others are left
  pub record Stands (commands : List Command) (front : ℕ) (s : SessionState) : Type 0 where
    pub played : List Command
    pub all : commands ≡ played ++ s.left
    pub begun : front ≤ length history
    pub within : s.front ≤ length history
    pub answers : Answers empty front played s.lines s.variables s.front
