-- What holds of the worlds and the transcripts of scripts, as statements.
--     IsFinished script w     no command is left, and each has its line
--     reply_of outcome        the reply to a change
--     changes_of lines        the marks and the replies of the changes among the lines
--     own_entries n history   the places and the replies of the entries of session n
use Rattle.std.specs.Prelude.{◌≡◌, ℕ, suc, ◌+◌, ◌==◌, if◌then◌else◌, List, [], ◌∷◌, ◌++◌, length, map, filter_map, slice_get, All, Option, Some, None}
use Rattle.std.specs.List.{Contains}
use Rattle.std.specs.Option.{option_map}
use Rattle.std.specs.FinMap.{empty}
use Rattle.alg_model.specs.Lattices as lattices
use Rattle.alg_model.specs.Lattices.{IsEdition}
use Rattle.lat_core.specs.declared.replies.Reply.{Reply}
use Rattle.lat_core.specs.declared.replies.Entry.{Entry}
use Rattle.lat_core.specs.declared.outcomes.Outcome.{Outcome}
use Rattle.lat_core.specs.declared.outcomes.Outcome.TheVariants.{Changed}
use Rattle.lat_core.specs.declared.outcomes.Line.{Line}
use Rattle.lat_core.specs.Histories.{IsLegal}
use Rattle.lat_language.specs.declared.scripts.Script.{Script}
use Rattle.lat_language.specs.declared.scripts.SessionScript.{SessionScript}
use Rattle.lat_session.specs.Outcomes.{Operations, KeepsValues}
use Rattle.lat_playing.specs.Worlds.{SessionState, World, session_at, only_prologue, rest, Runs, IsWorld, IsSolo}
use Rattle.lat_playing.specs.Answered.{AreAnswered, commands_of, opening_front}
use Rattle.lat_playing.specs.Transcripts.{IsTranscript, IsFair}
use Rattle.lat_playing.specs.Turns.{order_from, IsByPlaces}
use Rattle.lat_playing.specs.Plays.{IsPlayable}

-- After the same events a script has one world.
abbrev pub ScriptHasOneWorld : Type 0
ScriptHasOneWorld = (edition : lattices.Edition) (operations : Operations) (script : Script)
    (events : List ℕ) (w v : World) → IsEdition edition → KeepsValues operations
    → IsPlayable script → IsWorld edition operations script events w
    → IsWorld edition operations script events v → w ≡ v

-- And it has one, whatever the events.
abbrev pub ScriptHasWorld : Type 0
ScriptHasWorld = (edition : lattices.Edition) (operations : Operations) (script : Script)
    (events : List ℕ) → IsEdition edition → KeepsValues operations → IsPlayable script
    → (w : World) × IsWorld edition operations script events w

-- Played by its schedule, a script has one world.
abbrev pub ScriptHasOneSolo : Type 0
ScriptHasOneSolo = (edition : lattices.Edition) (operations : Operations) (script : Script)
    (w v : World) → IsEdition edition → KeepsValues operations → IsPlayable script
    → IsSolo edition operations script w → IsSolo edition operations script v → w ≡ v

-- And one transcript.
abbrev pub ScriptHasOneTranscript : Type 0
ScriptHasOneTranscript = (edition : lattices.Edition) (operations : Operations) (script : Script)
    (text other : List ℕ) → IsEdition edition → KeepsValues operations → IsPlayable script
    → IsTranscript edition operations script text → IsTranscript edition operations script other
    → text ≡ other

-- It has a transcript.
abbrev pub ScriptHasTranscript : Type 0
ScriptHasTranscript = (edition : lattices.Edition) (operations : Operations) (script : Script)
    → IsEdition edition → KeepsValues operations → IsPlayable script
    → (text : List ℕ) × IsTranscript edition operations script text

-- Its world is the one after the events of the schedule and some more.
abbrev pub SoloIsWorld : Type 0
SoloIsWorld = (edition : lattices.Edition) (operations : Operations) (script : Script)
    (w : World) → IsSolo edition operations script w → (later : List ℕ)
    × IsWorld edition operations script (map (λ place. place + 1) script.schedule ++ later) w

-- The history of each world is legal: each entry is answered by the step at its place.
abbrev pub HistoryIsLegal : Type 0
HistoryIsLegal = (edition : lattices.Edition) (operations : Operations) (script : Script)
    (events : List ℕ) (w : World) → IsEdition edition → KeepsValues operations
    → IsPlayable script → IsWorld edition operations script events w
    → IsLegal edition w.history

-- no command is left, and the prologue and each session have as many lines as commands
pub record IsFinished (script : Script) (w : World) : Type 0 where
  pub none_left : All (λ (s : SessionState). s.left ≡ []) w.sessions
  pub lines : map (λ (s : SessionState). length s.lines) w.sessions
      ≡ length script.prologue ∷ map (λ (s : SessionScript). length s.commands) script.sessions

-- Played by its schedule, a script is finished.
abbrev pub SoloIsFinished : Type 0
SoloIsFinished = (edition : lattices.Edition) (operations : Operations) (script : Script)
    (w : World) → IsSolo edition operations script w → IsFinished script w

-- the reply to a change
abbrev pub reply_of : Outcome → Option Reply
reply_of (Changed reply) = Some reply
reply_of _ = None

-- a change's mark, and its reply
abbrev pub change_of : Line → Option (ℕ × Reply)
change_of line = option_map (λ reply. (line.mark, reply)) (reply_of line.outcome)

abbrev pub changes_of : List Line → List (ℕ × Reply)
changes_of lines = filter_map change_of lines

-- places are counted from the one given
abbrev pub own_entries_from : ℕ → ℕ → List Entry → List (ℕ × Reply)
own_entries_from n place [] = []
own_entries_from n place (entry ∷ entries) = if entry.session == n
    then (place, entry.reply) ∷ own_entries_from n (suc place) entries
    else own_entries_from n (suc place) entries

-- rising, as the history has them
abbrev pub own_entries : ℕ → List Entry → List (ℕ × Reply)
own_entries n history = own_entries_from n 0 history

-- The changes of each session, in their order, are the entries of its number, with their places and
-- replies, in theirs; no other number has an entry.
abbrev pub HistoryHoldsChanges : Type 0
HistoryHoldsChanges = (edition : lattices.Edition) (operations : Operations) (script : Script)
    (events : List ℕ) (w : World) → IsWorld edition operations script events w
    → (n : ℕ) → changes_of (session_at w.sessions n).lines ≡ own_entries n w.history

-- Played by its schedule, each session's lines answer its commands over the one history.
abbrev pub LinesAnswerCommands : Type 0
LinesAnswerCommands = (edition : lattices.Edition) (operations : Operations) (script : Script)
    (w : World) → (a : IsSolo edition operations script w) → (n : ℕ)
    → AreAnswered edition operations n w.history empty
    (opening_front (length a.is_world.prologue.history) n) (commands_of script n)
    (session_at w.sessions n).lines

-- Lines that answer all commands of the sessions over one legal history, which begins with that of
-- the prologue, and whose entries are their changes, are those of the world after some events, in
-- which no command is left.
abbrev pub AnsweredSessionsAreWorld : Type 0
AnsweredSessionsAreWorld = (edition : lattices.Edition) (operations : Operations)
    (script : Script) (prologue : World) (history later : List Entry) (lines : ℕ → List Line)
    → Runs edition operations (rest (only_prologue script.prologue))
    (only_prologue script.prologue) prologue
    → history ≡ prologue.history ++ later → IsLegal edition history
    → lines 0 ≡ (session_at prologue.sessions 0).lines
    → ((n : ℕ) → AreAnswered edition operations n history empty
    (opening_front (length prologue.history) n) (commands_of script n) (lines n))
    → ((n : ℕ) → changes_of (lines n) ≡ own_entries n history)
    → (events : List ℕ) × (w : World) × IsWorld edition operations script events w
    × (w.history ≡ history) × All (λ (s : SessionState). s.left ≡ []) w.sessions
    × ((n : ℕ) → (session_at w.sessions n).lines ≡ lines n)

-- The transcript of a schedule is that of the sessions in some order.
abbrev pub SoloIsFair : Type 0
SoloIsFair = (edition : lattices.Edition) (operations : Operations) (script : Script)
    (text : List ℕ) → IsTranscript edition operations script text
    → IsFair edition operations script text

-- The transcript of sessions in some order is the one that is read off its places.
abbrev pub FairIsByPlaces : Type 0
FairIsByPlaces = (edition : lattices.Edition) (operations : Operations) (script : Script)
    (text : List ℕ) → IsFair edition operations script text
    → IsByPlaces edition operations script text

-- And the one that is read off its places is one of the sessions in some order.
abbrev pub PlacesAreFair : Type 0
PlacesAreFair = (edition : lattices.Edition) (operations : Operations) (script : Script)
    (text : List ℕ) → IsByPlaces edition operations script text
    → IsFair edition operations script text

-- That order is read off the lines: from some place on, the entry at k is one of session n where a
-- line of this session is a change with this mark.
abbrev pub OrderIsByMarks : Type 0
OrderIsByMarks = (edition : lattices.Edition) (operations : Operations) (script : Script)
    (events : List ℕ) (w : World) → IsWorld edition operations script events w
    → (place k n : ℕ)
    → (slice_get (order_from place w.history) k ≡ Some n
    → (reply : Reply) × Contains (changes_of (session_at w.sessions n).lines) (place + k, reply))
    × ((reply : Reply)
    → Contains (changes_of (session_at w.sessions n).lines) (place + k, reply)
    → slice_get (order_from place w.history) k ≡ Some n)
