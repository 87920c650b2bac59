-- The transcript of a script.
--     lines_text lines        the lines of a session
--     blocks_text scripts sessions     each session's name, and its lines
--     sessions_text script w           the prologue's lines, and the blocks of the sessions
--     transcript_text script w L       the same, and the summary of a lattice
--     IsText edition script w text     the summary is that of the lattice after the history
--     IsTranscript script text         the transcript of a script that is played by its schedule
--     IsFair script text               the transcript of its sessions in some order
use Rattle.std.specs.Prelude.{◌≡◌, ℕ, List, [], ◌∷◌, ◌++◌, length, flat_map, drop, All}
use Rattle.alg_model.specs.Lattices as lattices
use Rattle.alg_model.specs.Lattices.{Lattice}
use Rattle.lat_core.specs.declared.outcomes.Line.{Line}
use Rattle.lat_core.specs.SharedRows.{map_count}
use Rattle.lat_core.specs.Histories.{IsAfter}
use Rattle.lat_language.specs.declared.scripts.Script.{Script}
use Rattle.lat_language.specs.declared.scripts.SessionScript.{SessionScript}
use Rattle.lat_language.specs.Texts.{line_text, session_text, summary_text}
use Rattle.lat_session.specs.Outcomes.{Operations}
use Rattle.lat_playing.specs.Worlds.{SessionState, World, session_at, IsWorld, IsSolo}

abbrev pub lines_text : List Line → List ℕ
lines_text lines = flat_map line_text lines

abbrev pub blocks_text : List SessionScript → List SessionState → List ℕ
blocks_text (script ∷ scripts) (s ∷ sessions) =
    session_text script.name ++ lines_text s.lines ++ blocks_text scripts sessions
blocks_text _ _ = []

-- the prologue's lines, and the sessions' in the order of the script
abbrev pub sessions_text : Script → World → List ℕ
sessions_text script w = lines_text (session_at w.sessions 0).lines
    ++ blocks_text script.sessions (drop 1 w.sessions)

-- and the counts of the lattice and of the changes
abbrev pub transcript_text : Script → World → Lattice → List ℕ
transcript_text script w L = sessions_text script w
    ++ summary_text (length L.rows) (map_count L) (length w.history)

-- the counts are those of the lattice after all changes
pub record IsText (edition : lattices.Edition) (script : Script) (w : World) (text : List ℕ)
    : Type 0 where
  pub lattice : Lattice
  pub after : IsAfter edition w.history lattice
  pub is : text ≡ transcript_text script w lattice

pub record IsTranscript (edition : lattices.Edition) (operations : Operations) (script : Script)
    (text : List ℕ) : Type 0 where
  pub world : World
  pub solo : IsSolo edition operations script world
  pub is_text : IsText edition script world text

-- the text of the world after some events, in which no command is left
pub record IsFair (edition : lattices.Edition) (operations : Operations) (script : Script)
    (text : List ℕ) : Type 0 where
  pub events : List ℕ
  pub world : World
  pub is_world : IsWorld edition operations script events world
  pub none_left : All (λ (s : SessionState). s.left ≡ []) world.sessions
  pub is_text : IsText edition script world text
