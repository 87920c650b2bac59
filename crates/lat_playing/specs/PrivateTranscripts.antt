-- The lines of players. No public clause cites this module.
--     player_blocks sessions players     each session's name, and its player's lines
use Rattle.std.specs.Prelude.{ℕ, List, [], ◌∷◌, ◌++◌}
use Rattle.lat_language.specs.declared.scripts.SessionScript.{SessionScript}
use Rattle.lat_language.specs.Texts.{session_text}
use Rattle.lat_playing.specs.declared.players.Player.{Player}

abbrev pub player_blocks : List SessionScript → List Player → List ℕ
player_blocks (script ∷ scripts) (p ∷ players) =
    session_text script.name ++ p.text.items ++ player_blocks scripts players
player_blocks _ _ = []
