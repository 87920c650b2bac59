-- The script language: from the bytes of a text to the script that it spells, or its first fault.
--     lines_of bytes               the lines of a text, each without its line feed
--     words_of line                the words of a line, between its spaces
--     IsPassedOver line            the line has only spaces, or is a comment
--     State                        what lines have said
--     HasForm state line form      the line has this form
--     after state form             what the lines have said after one more, of this form
--     faults state line            the conditions of faults of a line, in their order
--     Says state line said         what a line says: its form, or the kind of its fault
--     Means state n lines read     what lines say, from line n on, after what the state holds
--     Spells bytes script          the bytes spell the script
--     FirstBad bytes n kind        line n is the first bad one, and kind is its fault
--     LeadsToScript bytes          some first lines spell a script, and a line follows
use Rattle.std.specs.Prelude.{◌≡◌, ◌⊎◌, ℕ, ◌+◌, ◌<◌, ◌≤◌, ◌==◌, Bool, true, false, not, nat_lt, if◌then◌else◌, List, [], ◌∷◌, ◌++◌, length, map, filter, find, take, sum_by, All, Contains, codes, Option, IfSome, Result, Ok, Err, MatchResult}
use Rattle.std.specs.List.{slice_split, position_or_len}
use Rattle.std.specs.Str.{bytes_eq}
use Rattle.lat_core.specs.Names.{IsDeclaredName}
use Rattle.lat_language.specs.declared.commands.Command.{Command}
use Rattle.lat_language.specs.declared.scripts.TheConstants.{MAX_LINE, MAX_COMMANDS, MAX_SESSIONS}
use Rattle.lat_language.specs.declared.scripts.Script.{Script}
use Rattle.lat_language.specs.declared.scripts.SessionScript.{SessionScript}
use Rattle.lat_language.specs.declared.script_faults.TheConstants.{TOO_LONG, NO_HEADER, NO_FORM, AFTER_SCHEDULE, TOO_MANY_SESSIONS, SESSION_TWICE, TOO_MANY_COMMANDS, NO_SESSION}
use Rattle.lat_language.specs.Commands.{SpellsCommand}

-- a line feed at the end of the text opens no further line
abbrev pub lines_of_parts : List (List ℕ) → List (List ℕ)
lines_of_parts [] = []
lines_of_parts (last ∷ []) = if length last == 0 then [] else last ∷ []
lines_of_parts (line ∷ next ∷ more) = line ∷ lines_of_parts (next ∷ more)

-- each line ends with a line feed, which the last one may lack; no bytes have no line
unfoldable pub lines_of : List ℕ → List (List ℕ)
lines_of bytes = lines_of_parts (slice_split (λ b. b == 10) bytes)

-- what stands between the spaces of a line, where that isn't empty
unfoldable pub words_of : List ℕ → List (List ℕ)
words_of line = filter (λ word. nat_lt 0 (length word)) (slice_split (λ b. b == 32) line)

-- the first byte of a line that isn't a space, if there is one
abbrev pub first_byte : List ℕ → Option ℕ
first_byte line = find (λ b. not (b == 32)) line

-- the first byte that isn't a space is `#`, if there is one
abbrev pub IsPassedOver : List ℕ → Type 0
IsPassedOver line = IfSome (first_byte line) (λ b. b ≡ 35)

abbrev pub header_words : List (List ℕ)
header_words = codes "lattice" ∷ codes "1" ∷ []

-- the words begin the session of this name
abbrev pub SpellsSession : List (List ℕ) → List ℕ → Type 0
SpellsSession words name = (words ≡ codes "session" ∷ name ∷ []) × IsDeclaredName name

-- the words schedule the sessions of these names, of which there is at least one
abbrev pub SpellsSchedule : List (List ℕ) → List (List ℕ) → Type 0
SpellsSchedule words names =
    (words ≡ codes "schedule" ∷ names) × (0 < length names) × All IsDeclaredName names

-- what the lines so far have said: whether the header stands there, and the parts of a script
pub record State : Type 0 where
  pub begun : Bool
  pub prologue : List Command
  pub sessions : List SessionScript
  pub schedule : List ℕ

-- before the first line
abbrev pub at_start : State
at_start = record { begun = false; prologue = []; sessions = []; schedule = [] }

abbrev pub script_of : State → Script
script_of state = record {
  prologue = state.prologue;
  sessions = state.sessions;
  schedule = state.schedule;
}

abbrev pub session_names : List SessionScript → List (List ℕ)
session_names sessions = map (λ (s : SessionScript). s.name) sessions

-- how many commands sessions have, and with the prologue
abbrev pub session_commands : List SessionScript → ℕ
session_commands sessions = sum_by (λ (s : SessionScript). length s.commands) sessions

abbrev pub command_count : State → ℕ
command_count state = length state.prologue + session_commands state.sessions

-- the position of a name in a list
abbrev pub place_of : List (List ℕ) → List ℕ → ℕ
place_of names name = position_or_len (λ other. bytes_eq other name) names

-- the form of a line without a fault: it is passed over, the header, a command, a `session` line or
-- a `schedule` line
pub data Form : Type 0 where
  PassedOver : Form
  Header : Form
  OfCommand : Command → Form
  OfSession : List ℕ → Form
  OfSchedule : List (List ℕ) → Form

-- a session without commands
abbrev pub new_session : List ℕ → SessionScript
new_session name = record { name = name; commands = [] }

-- a command belongs to the prologue where no session is begun
abbrev pub add_to_prologue : List SessionScript → List Command → Command → List Command
add_to_prologue sessions prologue c =
    if length sessions == 0 then prologue ++ c ∷ [] else prologue

-- else to the last session
abbrev pub add_to_last : List SessionScript → Command → List SessionScript
add_to_last [] c = []
add_to_last (s ∷ []) c = record { name = s.name; commands = s.commands ++ c ∷ [] } ∷ []
add_to_last (s ∷ t ∷ more) c = s ∷ add_to_last (t ∷ more) c

-- what the lines have said after one more, which has this form
abbrev pub after : State → Form → State
after state PassedOver = state
after state Header = record state { begun = true }
after state (OfCommand c) = record state {
  prologue = add_to_prologue state.sessions state.prologue c;
  sessions = add_to_last state.sessions c;
}
after state (OfSession name) =
    record state { sessions = state.sessions ++ new_session name ∷ [] }
after state (OfSchedule names) =
    record state {
      schedule = state.schedule ++ map (place_of (session_names state.sessions)) names;
    }

-- `lattice 1` has the form of the header only where no header stands before it
abbrev pub HasForm : State → List ℕ → Form → Type 0
HasForm state line PassedOver = IsPassedOver line
HasForm state line Header = (words_of line ≡ header_words) × (state.begun ≡ false)
HasForm state line (OfCommand c) = SpellsCommand (words_of line) c
HasForm state line (OfSession name) = SpellsSession (words_of line) name
HasForm state line (OfSchedule names) = SpellsSchedule (words_of line) names

-- no header stands before the line, and it is neither passed over nor the header
abbrev pub LacksHeader : State → List ℕ → Type 0
LacksHeader state line =
    (state.begun ≡ false) × ¬ (HasForm state line PassedOver) × ¬ (HasForm state line Header)

-- a command or a `session` line behind a `schedule` line, which has at least one name
abbrev pub ComesTooLate : State → List ℕ → Type 0
ComesTooLate state line = (0 < length state.schedule)
    × (((c : Command) × HasForm state line (OfCommand c))
    ⊎ ((name : List ℕ) × HasForm state line (OfSession name)))

-- a `session` line before which as many stand as there may be
abbrev pub IsOneSessionTooMany : State → List ℕ → Type 0
IsOneSessionTooMany state line = (MAX_SESSIONS ≤ length state.sessions)
    × ((name : List ℕ) × HasForm state line (OfSession name))

-- a `session` line with the name of an earlier one
abbrev pub IsSessionTwice : State → List ℕ → Type 0
IsSessionTwice state line = (name : List ℕ) × HasForm state line (OfSession name)
    × Contains (session_names state.sessions) name

-- a command before which as many stand as there may be
abbrev pub IsOneTooMany : State → List ℕ → Type 0
IsOneTooMany state line = (MAX_COMMANDS ≤ command_count state)
    × ((c : Command) × HasForm state line (OfCommand c))

-- a `schedule` line with a name that no session has
abbrev pub NamesNoSession : State → List ℕ → Type 0
NamesNoSession state line = (names : List (List ℕ)) × HasForm state line (OfSchedule names)
    × ¬ (All (Contains (session_names state.sessions)) names)

-- each kind of fault with its condition, in the order in which they are looked at
abbrev pub faults : State → List ℕ → List (ℕ × Type 0)
faults state line =
    (TOO_LONG, MAX_LINE < length line)
    ∷ (NO_HEADER, LacksHeader state line)
    ∷ (NO_FORM, (form : Form) → ¬ (HasForm state line form))
    ∷ (AFTER_SCHEDULE, ComesTooLate state line)
    ∷ (TOO_MANY_SESSIONS, IsOneSessionTooMany state line)
    ∷ (SESSION_TWICE, IsSessionTwice state line)
    ∷ (TOO_MANY_COMMANDS, IsOneTooMany state line)
    ∷ (NO_SESSION, NamesNoSession state line)
    ∷ []

-- the first condition that holds is that of this kind
abbrev pub IsFirst : List (ℕ × Type 0) → ℕ → Type 0
IsFirst [] kind = ⊥
IsFirst (fault ∷ more) kind = (fault.1 × (kind ≡ fault.0)) ⊎ ((¬ fault.1) × IsFirst more kind)

-- no condition holds
abbrev pub NoneHolds : List (ℕ × Type 0) → Type 0
NoneHolds [] = Unit {0}
NoneHolds (fault ∷ more) = (¬ fault.1) × NoneHolds more

-- its form where no condition of a fault holds, else the kind of the first that does
unfoldable pub Says : State → List ℕ → Result Form ℕ → Type 0
Says state line (Ok form) = HasForm state line form × NoneHolds (faults state line)
Says state line (Err kind) = IsFirst (faults state line) kind

-- Line by line, up to the first fault. Where every line is passed over, or there is none, line 1
-- lacks the header.
abbrev pub Means : State → ℕ → List (List ℕ) → Result Script (ℕ × ℕ) → Type 0
Means state n [] read = read ≡ (if state.begun then Ok (script_of state) else Err (1, NO_HEADER))
Means state n (line ∷ lines) read = (said : Result Form ℕ) × Says state line said
    × MatchResult said (λ form. Means (after state form) (n + 1) lines read)
    (λ kind. read ≡ Err (n, kind))

abbrev pub Spells : List ℕ → Script → Type 0
Spells bytes script = Means at_start 1 (lines_of bytes) (Ok script)

abbrev pub FirstBad : List ℕ → ℕ → ℕ → Type 0
FirstBad bytes n kind = Means at_start 1 (lines_of bytes) (Err (n, kind))

-- some number of lines, from the first on, spell a script, and one more line follows
abbrev pub LeadsToScript : List ℕ → Type 0
LeadsToScript bytes = (count : ℕ) × (script : Script) × (count < length (lines_of bytes))
    × Means at_start 1 (take count (lines_of bytes)) (Ok script)
