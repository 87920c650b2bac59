-- Laws of the script language, each under a name; and what a text spells, without going line by
-- line.
--     is_taken line             the line isn't passed over
--     text_lines script scheduled     the lines of a script by words, whose `schedule` lines have
--                               these names
--     commands_of script        its commands, in their order
--     IsTextOf bytes script     the lines of the text are those of the script
--     SpelledTexts, TakenLines  a text spells just the scripts whose text it is
--     OneScript, OneFault       a text spells one script, or has one first fault,
--     NeverBoth, ScriptOrFault  never both, and always one of the two
--     OneCommand                words spell one command
--     CanonicalSpells           the canonical text of a script spells it
--     PrintableLines            which bytes a line has that isn't passed over
--     Limits, FaultKinds        the limits and the kinds of fault, as numbers
use Rattle.std.specs.Prelude.{◌≡◌, ◌≢◌, ◌⊎◌, ◌↔◌, ℕ, ◌<◌, ◌≤◌, ◌==◌, Bool, false, not, IsTrue, Option, Some, None, List, ◌∷◌, ◌++◌, length, map, flat_map, filter, codes, All, AllPairs, Contains}
use Rattle.std.specs.Int.{IsInRange}
use Rattle.lat_language.specs.declared.scripts.TheConstants.{MAX_SCRIPT, MAX_LINE, MAX_COMMANDS, MAX_SESSIONS, SCHEDULE_NAMES}
use Rattle.lat_language.specs.declared.scripts.Script.{Script}
use Rattle.lat_language.specs.declared.scripts.SessionScript.{SessionScript}
use Rattle.lat_language.specs.declared.commands.Command.{Command}
use Rattle.lat_language.specs.declared.script_faults.TheConstants.{TOO_LONG, NO_HEADER, NO_FORM, TOO_MANY_SESSIONS, SESSION_TWICE, TOO_MANY_COMMANDS, NO_SESSION, AFTER_SCHEDULE}
use Rattle.lat_core.specs.Names.{IsDeclaredName}
use Rattle.lat_language.specs.Commands.{command_words, SpellsCommand}
use Rattle.lat_language.specs.Grammar.{lines_of, words_of, first_byte, IsPassedOver, header_words, session_names, place_of, State, Form, HasForm, Spells, FirstBad}
use Rattle.lat_language.specs.CanonicalText.{session_lines, canonical_text}

-- whether there is a first byte, and it isn't `#`
abbrev pub begins_a_form : Option ℕ → Bool
begins_a_form None = false
begins_a_form (Some b) = not (b == 35)

-- whether a line isn't passed over, by its first byte that isn't a space
abbrev pub is_taken : List ℕ → Bool
is_taken line = begins_a_form (first_byte line)

-- the header, the prologue's commands, each session's `session` line and commands, and a `schedule`
-- line for each of the lists of names
abbrev pub text_lines : Script → List (List (List ℕ)) → List (List (List ℕ))
text_lines script scheduled = header_words ∷ (map command_words script.prologue
    ++ (flat_map session_lines script.sessions
    ++ map (λ names. codes "schedule" ∷ names) scheduled))

-- those of the prologue, and of each session
abbrev pub commands_of : Script → List Command
commands_of script =
    script.prologue ++ flat_map (λ (s : SessionScript). s.commands) script.sessions

-- No line is too long, and those that aren't passed over are the script's, by words. Each command
-- is spelled by its words, and sessions have different declared names; there are not too many of
-- either. Each `schedule` line names at least one session, and sessions alone; the schedule is the
-- places of all these names.
pub record IsTextOf (bytes : List ℕ) (script : Script) : Type 0 where
  -- the names of each `schedule` line
  pub scheduled : List (List (List ℕ))
  pub short : All (λ line. length line ≤ MAX_LINE) (lines_of bytes)
  pub lines : map words_of (filter is_taken (lines_of bytes)) ≡ text_lines script scheduled
  pub commands : All (λ c. SpellsCommand (command_words c) c) (commands_of script)
  pub few_commands : length (commands_of script) ≤ MAX_COMMANDS
  pub names : All IsDeclaredName (session_names script.sessions)
  pub distinct : AllPairs (λ m n. m ≢ n) (session_names script.sessions)
  pub few_sessions : length script.sessions ≤ MAX_SESSIONS
  pub some : All (λ names. 0 < length names) scheduled
  pub known : All (All (Contains (session_names script.sessions))) scheduled
  pub places : script.schedule
      ≡ map (place_of (session_names script.sessions)) (flat_map (λ names. names) scheduled)

-- a text spells a script exactly where its lines are those of the script
abbrev pub SpelledTexts : Type 0
SpelledTexts = (bytes : List ℕ) (script : Script) → Spells bytes script ↔ IsTextOf bytes script

-- the test of a line agrees with what the grammar passes over
abbrev pub TakenLines : Type 0
TakenLines = (line : List ℕ) → IsTrue (is_taken line) ↔ (¬ (IsPassedOver line))

-- a text spells at most one script
abbrev pub OneScript : Type 0
OneScript = (bytes : List ℕ) (s t : Script) → Spells bytes s → Spells bytes t → s ≡ t

-- a text has at most one first fault
abbrev pub OneFault : Type 0
OneFault = (bytes : List ℕ) (m n k l : ℕ) → FirstBad bytes m k → FirstBad bytes n l
    → (m ≡ n) × (k ≡ l)

-- what spells a script has no fault
abbrev pub NeverBoth : Type 0
NeverBoth = (bytes : List ℕ) (s : Script) (n k : ℕ) → Spells bytes s → FirstBad bytes n k → ⊥

-- a text spells a script or has a first fault
abbrev pub ScriptOrFault : Type 0
ScriptOrFault = (bytes : List ℕ) → ((script : Script) × Spells bytes script)
    ⊎ ((n : ℕ) × (kind : ℕ) × FirstBad bytes n kind)

-- words spell at most one command
abbrev pub OneCommand : Type 0
OneCommand = (words : List (List ℕ)) (c d : Command) → SpellsCommand words c
    → SpellsCommand words d → c ≡ d

-- the canonical text of a script that some bytes spell spells that script
abbrev pub CanonicalSpells : Type 0
CanonicalSpells = (bytes : List ℕ) (script : Script) → Spells bytes script
    → Spells (canonical_text script) script

-- a line of a form, save one that is passed over, has printable bytes and spaces alone
abbrev pub PrintableLines : Type 0
PrintableLines = (state : State) (line : List ℕ) (form : Form) → HasForm state line form
    → ¬ (IsPassedOver line) → All (IsInRange 32 126) line

-- the limits of the language
abbrev pub Limits : Type 0
Limits = (MAX_SCRIPT ≡ 1048576) × (MAX_LINE ≡ 4096) × (MAX_COMMANDS ≡ 20000) × (MAX_SESSIONS ≡ 16)
    × (SCHEDULE_NAMES ≡ 100)

-- the kinds of fault
abbrev pub FaultKinds : Type 0
FaultKinds = (NO_HEADER ≡ 1) × (TOO_LONG ≡ 2) × (NO_FORM ≡ 3) × (TOO_MANY_SESSIONS ≡ 4)
    × (SESSION_TWICE ≡ 5) × (TOO_MANY_COMMANDS ≡ 6) × (NO_SESSION ≡ 7) × (AFTER_SCHEDULE ≡ 8)
