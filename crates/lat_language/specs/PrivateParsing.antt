-- What the parts of the parser say. No public clause cites this module.
use Rattle.std.specs.Prelude.{◌≡◌, ℕ, ◌+◌, ◌<◌, ◌≤◌, true, List, [], ◌∷◌, ◌++◌, length, map, All, Contains, Result, Ok, Err}
use Rattle.lat_language.specs.declared.line_faults.LineFault.{LineFault}
use Rattle.lat_language.specs.declared.line_faults.LineFault.TheVariants as fault
use Rattle.lat_language.specs.declared.commands.Command.{Command}
use Rattle.lat_language.specs.declared.script_faults.ScriptFault.{ScriptFault}
use Rattle.lat_language.specs.declared.script_faults.ScriptFault.TheVariants as read
use Rattle.lat_language.specs.declared.script_faults.TheConstants.{AFTER_SCHEDULE, TOO_MANY_SESSIONS, SESSION_TWICE, TOO_MANY_COMMANDS, NO_SESSION}
use Rattle.lat_language.specs.declared.scripts.TheConstants.{MAX_COMMANDS, MAX_SESSIONS}
use Rattle.lat_language.specs.declared.scripts.Script.{Script}
use Rattle.lat_language.specs.declared.scripts.SessionScript.{SessionScript}
use Rattle.lat_language.specs.Grammar.{State, Form, after, session_names, session_commands, command_count, place_of, IsFirst, NoneHolds, Says, Spells, FirstBad, LeadsToScript}

-- the number of commands is that of the prologue and the sessions, of which there are not too many
pub record IsCounted (prologue : List Command) (sessions : List SessionScript) (commands : ℕ)
    : Type 0 where
  pub counted : commands ≡ length prologue + session_commands sessions
  pub few : length sessions ≤ MAX_SESSIONS

-- the conditions on a command, a `session` line and a `schedule` line, in their order
abbrev pub command_faults : State → List (ℕ × Type 0)
command_faults state =
    (AFTER_SCHEDULE, 0 < length state.schedule)
    ∷ (TOO_MANY_COMMANDS, MAX_COMMANDS ≤ command_count state)
    ∷ []

abbrev pub session_faults : State → List ℕ → List (ℕ × Type 0)
session_faults state name =
    (AFTER_SCHEDULE, 0 < length state.schedule)
    ∷ (TOO_MANY_SESSIONS, MAX_SESSIONS ≤ length state.sessions)
    ∷ (SESSION_TWICE, Contains (session_names state.sessions) name)
    ∷ []

abbrev pub schedule_faults : List SessionScript → List (List ℕ) → List (ℕ × Type 0)
schedule_faults sessions names =
    (NO_SESSION, ¬ (All (Contains (session_names sessions)) names)) ∷ []

-- the places of the names are added, or one is the name of no session, or memory was wanting
abbrev pub AddsPlaces : List SessionScript → List (List ℕ) → List ℕ → List ℕ
    → Result (Unit {0}) LineFault → Type 0
AddsPlaces sessions names old new (Ok u) = All (Contains (session_names sessions)) names
    × (new ≡ old ++ map (place_of (session_names sessions)) names)
AddsPlaces sessions names old new (Err (fault.Bad kind)) =
    IsFirst (schedule_faults sessions names) kind
AddsPlaces sessions names old new (Err fault.NoMemory) = Unit {0}

-- the state is as it should be, or it is the first fault that holds, or memory was wanting
abbrev pub Adds : List (ℕ × Type 0) → State → State → Result (Unit {0}) LineFault → Type 0
Adds faults wanted new (Ok u) = NoneHolds faults × (new ≡ wanted)
Adds faults wanted new (Err (fault.Bad kind)) = IsFirst faults kind
Adds faults wanted new (Err fault.NoMemory) = Unit {0}

-- The line says a form, after which the state is new, or it has a fault of this kind, or memory was
-- wanting.
abbrev pub TakesLine : State → List ℕ → State → Result (Unit {0}) LineFault → Type 0
TakesLine old line new (Ok u) = (form : Form) × Says old line (Ok form) × (new ≡ after old form)
TakesLine old line new (Err (fault.Bad kind)) = Says old line (Err kind)
TakesLine old line new (Err fault.NoMemory) = old.begun ≡ true

-- the fault of a line, with the line's number
abbrev pub at_line : LineFault → ℕ → ScriptFault
at_line (fault.Bad kind) number = read.Line number kind
at_line fault.NoMemory number = read.NoMemory

-- the bytes mean this, or memory was wanting
abbrev pub Reads : List ℕ → Result Script ScriptFault → Type 0
Reads bytes (Ok script) = Spells bytes script
Reads bytes (Err (read.Line number kind)) = FirstBad bytes number kind
Reads bytes (Err read.NoMemory) = LeadsToScript bytes
