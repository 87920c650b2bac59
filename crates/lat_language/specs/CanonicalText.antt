-- The canonical text of a script.
--     line_of words          the words of a line, separated by one space, and a line feed
--     scheduled_names s      the names of the sessions of a schedule, in its order
--     schedule_lines names   the lines of a schedule, by words
--     session_lines s        the lines of a session, by words
--     canonical_lines s      the lines of the canonical text, by words
--     canonical_text s       its bytes
use Rattle.std.specs.Prelude.{ℕ, List, [], ◌∷◌, ◌++◌, length, map, flat_map, codes, slice_index_or}
use Rattle.std.specs.List.{join_with_byte, range_with_len}
use Rattle.std.specs.Fork.{slice_chunk}
use Rattle.std.specs.Int.{div_ceil}
use Rattle.lat_language.specs.declared.scripts.TheConstants.{SCHEDULE_NAMES}
use Rattle.lat_language.specs.declared.scripts.Script.{Script}
use Rattle.lat_language.specs.declared.scripts.SessionScript.{SessionScript}
use Rattle.lat_language.specs.Commands.{command_words}
use Rattle.lat_language.specs.Grammar.{header_words, session_names}

-- 32 is the space, and 10 the line feed
unfoldable pub line_of : List (List ℕ) → List ℕ
line_of words = join_with_byte 32 words ++ 10 ∷ []

-- the name of the session at this place, which has no bytes where there is no session
abbrev pub name_at : List SessionScript → ℕ → List ℕ
name_at sessions place = slice_index_or (session_names sessions) place []

abbrev pub scheduled_names : Script → List (List ℕ)
scheduled_names script = map (name_at script.sessions) script.schedule

-- the names in their order, SCHEDULE_NAMES in each line but the last, which may have fewer
unfoldable pub schedule_lines : List (List ℕ) → List (List (List ℕ))
schedule_lines names = map (λ n. codes "schedule" ∷ slice_chunk names SCHEDULE_NAMES n)
    (range_with_len 0 (div_ceil (length names) SCHEDULE_NAMES))

-- its `session` line and its commands
abbrev pub session_lines : SessionScript → List (List (List ℕ))
session_lines session =
    (codes "session" ∷ session.name ∷ []) ∷ map command_words session.commands

-- the header, the prologue's commands, the sessions and the schedule
abbrev pub canonical_lines : Script → List (List (List ℕ))
canonical_lines script = header_words ∷ (map command_words script.prologue
    ++ (flat_map session_lines script.sessions ++ schedule_lines (scheduled_names script)))

unfoldable pub canonical_text : Script → List ℕ
canonical_text script = flat_map line_of (canonical_lines script)
