-- What the parser has read, line by line, is what the text means.
use Rattle.std.proofs.Common.{◌≡◌, ℕ, ◌+◌, ◌<◌, ◌≤◌, true, cond, Result, Ok, Err, List, [], ◌∷◌, ◌++◌, length, take, sym, refl, ap, ◌∙◌, subst, inl, inr, arith, append_assoc, append-nil, length-append}
use Rattle.std.proofs.Math.Seq.{take-append_seam}
use Rattle.std.specs.Prelude.{◌⊎◌, All, Contains}
use Rattle.std.proofs.lemmas.Bool.{cases_lt}
use Rattle.lat_language.specs.declared.commands.Command.{Command}
use Rattle.lat_language.specs.declared.scripts.TheConstants.{MAX_LINE, MAX_COMMANDS, MAX_SESSIONS}
use Rattle.lat_language.specs.declared.scripts.Script.{Script}
use Rattle.lat_language.specs.declared.script_faults.TheConstants.{NO_HEADER}
use Rattle.lat_language.specs.Commands.{SpellsCommand}
use Rattle.lat_language.specs.Grammar.{lines_of, words_of, State, at_start, script_of, session_names, command_count, Form, OfCommand, OfSession, OfSchedule, SpellsSession, SpellsSchedule, after, IsFirst, Says, Means, Spells, FirstBad, LeadsToScript}
use Rattle.lat_language.specs.declared.script_faults.ScriptFault.{ScriptFault}
use Rattle.lat_language.specs.declared.script_faults.ScriptFault.TheVariants as fault
use Rattle.lat_language.specs.declared.line_faults.LineFault.{LineFault}
use Rattle.lat_language.specs.declared.line_faults.LineFault.TheVariants as line_fault
use Rattle.lat_language.specs.PrivateParsing.{command_faults, session_faults, schedule_faults, AddsPlaces, Adds, at_line, TakesLine, Reads}
use Rattle.lat_language.proofs.LineMeanings.{says_command_late, says_too_many, says_command, says_session_late, says_too_many_sessions, says_twice, says_session, says_unknown, says_schedule}
use Rattle.lat_language.proofs.SessionPlaces.{decide_all_there}
use Rattle.lat_language.proofs.OneMeaning.{script_unique, fault_unique, never_both}

-- the first of the lines
pub means_bad : (state : State) (n : ℕ) (line : List ℕ) (lines more : List (List ℕ)) (kind : ℕ)
    → lines ≡ line ∷ more → Says state line (Err kind) → Means state n lines (Err (n, kind))
means_bad state n line lines more kind e says = subst (λ ls. Means state n ls (Err (n, kind))) (sym e) (Err kind, says, refl)

-- no line is left
pub means_none : (state : State) (n : ℕ) (lines : List (List ℕ)) (read : Result Script (ℕ × ℕ))
    → lines ≡ [] → read ≡ cond state.begun (Ok (script_of state)) (Err (1, NO_HEADER))
    → Means state n lines read
means_none state n lines read e is = subst (λ ls. Means state n ls read) (sym e) is

-- what was read is the script or the fault that there is
pub script_read : (bytes : List ℕ) (r : Result Script ScriptFault) → Reads bytes r
    → (script : Script) → Spells bytes script → (r ≡ Ok script) ⊎ (r ≡ Err fault.NoMemory)
script_read bytes (Ok s) reads script spelled = inl (ap Ok (script_unique bytes s script reads spelled))
script_read bytes (Err (fault.Line n k)) reads script spelled = absurd (never_both bytes script n k spelled reads)
script_read bytes (Err fault.NoMemory) reads script spelled = inr refl

-- the first fault that there is, is read
pub fault_read : (bytes : List ℕ) (r : Result Script ScriptFault) → Reads bytes r → (n k : ℕ)
    → FirstBad bytes n k → (r ≡ Err (fault.Line n k)) ⊎ (r ≡ Err fault.NoMemory)
fault_read bytes (Ok s) reads n k bad = absurd (never_both bytes s n k reads bad)
fault_read bytes (Err (fault.Line m l)) reads n k bad = let e = fault_unique bytes m n l k reads bad in let lines = e.0 in let kinds = e.1 in inl (cc)
fault_read bytes (Err fault.NoMemory) reads n k bad = inr refl

-- memory was wanted behind a script
pub memory_read : (bytes : List ℕ) (r : Result Script ScriptFault) → Reads bytes r
    → r ≡ Err fault.NoMemory → LeadsToScript bytes
memory_read bytes (Ok s) reads e = cc
memory_read bytes (Err (fault.Line n k)) reads e = cc
memory_read bytes (Err fault.NoMemory) reads e = reads

-- ---- texts that are not empty
lines_none : lines_of [] ≡ []
unfolding lines_of
lines_none = refl

-- a text that a line of is left has a byte
pub leading_not_empty : (bytes : List ℕ) → LeadsToScript bytes → 0 < length bytes
leading_not_empty [] (count, script, more, h) = absurd (omega (arith, more, ap length lines_none))
leading_not_empty (b ∷ bs) h = omega arith

-- and so has one that spells a script
pub spelled_not_empty : (bytes : List ℕ) (script : Script) → Spells bytes script → 0 < length bytes
spelled_not_empty [] script h =
    let none : ◌≡◌ {A = Result Script (ℕ × ℕ)} (Ok script) (Err (1, NO_HEADER)) = subst (λ ls. Means at_start 1 ls (Ok script)) lines_none h in cc
spelled_not_empty (b ∷ bs) script h = omega arith

-- ---- what a line adds, and what it says
module _ (old new : State) (line : List ℕ) (fits : length line ≤ MAX_LINE) (begun : old.begun ≡ true)
  where
    -- a command
    module _ (c : Command) (spelled : SpellsCommand (words_of line) c) where
      bad_command : (kind : ℕ) → IsFirst (command_faults old) kind → Says old line (Err kind)
      bad_command kind (inl h) = subst (λ k. Says old line (Err k)) (sym h.1) (says_command_late old line fits begun c spelled h.0)
      bad_command kind (inr (early, inl h)) = subst (λ k. Says old line (Err k)) (sym h.1) (says_too_many old line fits begun c spelled early h.0)
      bad_command kind (inr (early, inr (room, h))) = absurd h

      pub takes_command : (r : Result (Unit {0}) LineFault)
          → Adds (command_faults old) (after old (OfCommand c)) new r → TakesLine old line new r
      takes_command (Ok u) h =
          let room : command_count old < MAX_COMMANDS = elim (cases_lt (command_count old) MAX_COMMANDS) [
            | inl l ↦ l
            | inr full ↦ absurd (h.0.1.0 full)
          ] in
          (OfCommand c, says_command old line fits begun c spelled h.0.0 room, h.1)
      takes_command (Err (line_fault.Bad kind)) h = bad_command kind h
      takes_command (Err line_fault.NoMemory) h = begun

    -- a `session` line
    module _ (name : List ℕ) (spelled : SpellsSession (words_of line) name) where
      bad_session : (kind : ℕ) → IsFirst (session_faults old name) kind → Says old line (Err kind)
      bad_session kind (inl h) = subst (λ k. Says old line (Err k)) (sym h.1) (says_session_late old line fits begun name spelled h.0)
      bad_session kind (inr (early, inl h)) = subst (λ k. Says old line (Err k)) (sym h.1) (says_too_many_sessions old line fits begun name spelled early h.0)
      bad_session kind (inr (early, inr (room, inl h))) =
          let fewer : length old.sessions < MAX_SESSIONS = elim (cases_lt (length old.sessions) MAX_SESSIONS) [
            | inl l ↦ l
            | inr full ↦ absurd (room full)
          ] in
          subst (λ k. Says old line (Err k)) (sym h.1) (says_twice old line fits begun name spelled early fewer h.0)
      bad_session kind (inr (early, inr (room, inr (new_name, h)))) = absurd h

      pub takes_session : (r : Result (Unit {0}) LineFault)
          → Adds (session_faults old name) (after old (OfSession name)) new r
          → TakesLine old line new r
      takes_session (Ok u) h =
          let room : length old.sessions < MAX_SESSIONS = elim (cases_lt (length old.sessions) MAX_SESSIONS) [
            | inl l ↦ l
            | inr full ↦ absurd (h.0.1.0 full)
          ] in
          (OfSession name, says_session old line fits begun name spelled h.0.0 room h.0.1.1.0, h.1)
      takes_session (Err (line_fault.Bad kind)) h = bad_session kind h
      takes_session (Err line_fault.NoMemory) h = begun

    -- a `schedule` line
    module _ (names : List (List ℕ)) (spelled : SpellsSchedule (words_of line) names) where
      bad_schedule : (kind : ℕ) → IsFirst (schedule_faults old.sessions names) kind
          → Says old line (Err kind)
      bad_schedule kind (inl h) = subst (λ k. Says old line (Err k)) (sym h.1) (says_unknown old line fits begun names spelled h.0)
      bad_schedule kind (inr (known, h)) = absurd h

      pub takes_schedule : (r : Result (Unit {0}) LineFault)
          → Adds (schedule_faults old.sessions names) (after old (OfSchedule names)) new r
          → TakesLine old line new r
      takes_schedule (Ok u) h = elim (decide_all_there (session_names old.sessions) names) [
        | inl known ↦ (OfSchedule names, says_schedule old line fits begun names spelled known, h.1)
        | inr unknown ↦ absurd (h.0.0 unknown)
      ]
      takes_schedule (Err (line_fault.Bad kind)) h = bad_schedule kind h
      takes_schedule (Err line_fault.NoMemory) h = begun

-- what is done to the places is done to the state
pub adds_schedule : (old : State) (names : List (List ℕ)) (places : List ℕ)
    (r : Result (Unit {0}) LineFault) → AddsPlaces old.sessions names old.schedule places r
    → Adds (schedule_faults old.sessions names) (after old (OfSchedule names))
    (record old { schedule = places }) r
adds_schedule old names places (Ok u) h = (((λ unknown. unknown h.0), tt), ap (λ p. record old { schedule = p }) h.1)
adds_schedule old names places (Err (line_fault.Bad kind)) h = h
adds_schedule old names places (Err line_fault.NoMemory) h = tt

-- ---- the lines so far
-- The state and the number are those after some lines, from the first on, and the others are left.
pub record ReadSoFar (state : State) (number : ℕ) (rest bytes : List ℕ) : Type 0 where
  pub done : List (List ℕ)
  pub split : lines_of bytes ≡ done ++ lines_of rest
  pub means : (more : List (List ℕ)) (read : Result Script (ℕ × ℕ)) → Means state number more read
      → Means at_start 1 (done ++ more) read

-- before the first line
pub read_none : (bytes : List ℕ) → ReadSoFar at_start 1 bytes bytes
read_none bytes = record { done = []; split = refl; means = λ more read h. h }

module _ (state : State) (number : ℕ) (rest bytes : List ℕ) (far : ReadSoFar state number rest bytes)
  where
    -- what the lines that are left mean after those is what the text means
    pub read_all : (read : Result Script (ℕ × ℕ)) → Means state number (lines_of rest) read
        → Means at_start 1 (lines_of bytes) read
    read_all read h = subst (λ lines. Means at_start 1 lines read) (sym far.split) (far.means (lines_of rest) read h)

    module _ (line after_line : List ℕ) (next : lines_of rest ≡ line ∷ lines_of after_line) where
      split_more : lines_of bytes ≡ (far.done ++ line ∷ []) ++ lines_of after_line
      split_more = far.split ∙ ap (λ lines. far.done ++ lines) next ∙ sym (append_assoc far.done (line ∷ []) (lines_of after_line))

      means_more : (new : State) (form : Form) → Says state line (Ok form) → new ≡ after state form
          → (more : List (List ℕ)) (read : Result Script (ℕ × ℕ)) → Means new (number + 1) more read
          → Means at_start 1 ((far.done ++ line ∷ []) ++ more) read
      means_more new form says is more read h =
          subst (λ lines. Means at_start 1 lines read) (sym (append_assoc far.done (line ∷ []) more))
          (far.means (line ∷ more) read (Ok form, says, subst (λ s. Means s (number + 1) more read) is h))

      -- after one line more
      pub read_more : (new : State) → TakesLine state line new (Ok tt)
          → ReadSoFar new (number + 1) after_line bytes
      read_more new (form, says, is) = record {
        done = far.done ++ line ∷ [];
        split = split_more;
        means = means_more new form says is;
      }

      -- a fault of a line is one of the text
      pub fault_reads : (new : State) (f : LineFault) → TakesLine state line new (Err f)
          → Reads bytes (Err (at_line f number))
      fault_reads new (line_fault.Bad kind) says =
          read_all (Err (number, kind)) (means_bad state number line (lines_of rest) (lines_of after_line) kind next says)
      fault_reads new line_fault.NoMemory begun =
          let none : Means state number [] (Ok (script_of state)) = subst (λ b. ◌≡◌ {A = Result Script (ℕ × ℕ)} (Ok (script_of state)) (cond b (Ok (script_of state)) (Err (1, NO_HEADER)))) (sym begun) refl in
          let first : Means at_start 1 far.done (Ok (script_of state)) =
          subst (λ ls. Means at_start 1 ls (Ok (script_of state))) (append-nil far.done) (far.means [] (Ok (script_of state)) none) in
          let taken : take (length far.done) (lines_of bytes) ≡ far.done =
          ap (λ ls. take (length far.done) ls) far.split ∙ take-append_seam far.done (lines_of rest) in
          let more : length far.done < length (lines_of bytes) =
          omega (arith, ap length far.split, length-append far.done (lines_of rest), ap length next) in
          (length far.done, script_of state, more, subst (λ ls. Means at_start 1 ls (Ok (script_of state))) (sym taken) first)
