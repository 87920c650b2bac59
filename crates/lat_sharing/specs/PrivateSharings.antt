-- Sessions that are played over a shared history. No public clause cites this module.
--     PlaysAll old variables commands lines new after     the lines of all commands over a port, and
--                             what is known and held afterwards
--     HasPlayed old commands new text     the same from no variables, the lines as a text
--     HavePlayed scripts old new texts     the same for each of some sessions, with its passes
--                             before and afterwards
--     ArePlayed sharing entries n scripts passes texts     the sessions from number n on, whose
--                             passes began with these entries
--     session_blocks scripts texts     each session's name, and its lines
--     IsFairWorld script prologue texts entries     the world of these entries and lines, after
--                             some events
use Rattle.std.specs.Prelude.{◌≡◌, ℕ, suc, List, [], ◌∷◌, ◌++◌, All, ⊤}
use Rattle.std.specs.FinMap.{empty}
use Rattle.alg_model.specs.Lattices as lattices
use Rattle.lat_core.specs.declared.outcomes.Line.{Line}
use Rattle.lat_core.specs.declared.replies.Entry.{Entry}
use Rattle.lat_core.specs.Histories.{Knowledge}
use Rattle.lat_language.specs.declared.commands.Command.{Command}
use Rattle.lat_language.specs.declared.scripts.Script.{Script}
use Rattle.lat_language.specs.declared.scripts.SessionScript.{SessionScript}
use Rattle.lat_language.specs.Texts.{session_text}
use Rattle.lat_session.specs.Variables.{Variables}
use Rattle.lat_session.specs.Outcomes.{Operations}
use Rattle.lat_session.specs.Playing.{PlaysOver}
use Rattle.lat_playing.specs.Worlds.{SessionState, World, session_at, IsWorld}
use Rattle.lat_playing.specs.Transcripts.{lines_text, sessions_text}
use Rattle.lat_shared.specs.Sharing.{Sharing, SharedPass, knowledge_of, first_pass}

module _ (operations : Operations) where
  -- there are as many lines as commands
  abbrev pub PlaysAll : Knowledge → Variables → List Command → List Line → Knowledge → Variables
      → Type 0
  PlaysAll old variables [] [] new after = (new ≡ old) × (after ≡ variables)
  PlaysAll old variables (command ∷ commands) (line ∷ lines) new after =
      (k : Knowledge) × (v : Variables) × PlaysOver operations old variables command k v line
      × PlaysAll k v commands lines new after
  PlaysAll _ _ _ _ _ _ = ⊥

  pub record HasPlayed (old : Knowledge) (commands : List Command) (new : Knowledge)
      (text : List ℕ) : Type 0 where
    pub lines : List Line
    pub after : Variables
    pub plays : PlaysAll old empty commands lines new after
    pub is_text : text ≡ lines_text lines

  -- each played the commands of its script
  abbrev pub HavePlayed : List SessionScript → List SharedPass → List SharedPass → List (List ℕ)
      → Type 0
  HavePlayed [] [] [] [] = ⊤
  HavePlayed (script ∷ scripts) (old ∷ olds) (new ∷ news) (text ∷ texts) =
      HasPlayed (knowledge_of old) script.commands (knowledge_of new) text
      × HavePlayed scripts olds news texts
  HavePlayed _ _ _ _ = ⊥

  -- and each began with these entries
  abbrev pub ArePlayed : Sharing → List Entry → ℕ → List SessionScript → List SharedPass
      → List (List ℕ) → Type 0
  ArePlayed sharing entries n [] [] [] = ⊤
  ArePlayed sharing entries n (script ∷ scripts) (pass ∷ passes) (text ∷ texts) =
      HasPlayed (knowledge_of (first_pass sharing n entries)) script.commands (knowledge_of pass)
      text × ArePlayed sharing entries (suc n) scripts passes texts
  ArePlayed _ _ _ _ _ _ = ⊥

abbrev pub session_blocks : List SessionScript → List (List ℕ) → List ℕ
session_blocks (script ∷ scripts) (text ∷ texts) =
    session_text script.name ++ text ++ session_blocks scripts texts
session_blocks _ _ = []

-- no command is left in it, and its text is that of the prologue and the sessions
pub record IsFairWorld (edition : lattices.Edition) (operations : Operations) (script : Script)
    (prologue : World) (texts : List (List ℕ)) (entries : List Entry) : Type 0 where
  pub events : List ℕ
  pub world : World
  pub is_world : IsWorld edition operations script events world
  pub none_left : All (λ (s : SessionState). s.left ≡ []) world.sessions
  pub history : entries ≡ world.history
  pub lines : lines_text (session_at prologue.sessions 0).lines
      ++ session_blocks script.sessions texts ≡ sessions_text script world
