-- A text means something: it spells a script, or has a first fault.
use Rattle.std.proofs.Common.{◌≡◌, ℕ, ◌+◌, ◌<◌, ◌≤◌, true, false, cond, Result, Ok, Err, List, [], ◌∷◌, length, refl, ap, subst, inl, inr, arith}
use Rattle.std.specs.Prelude.{◌⊎◌, All, codes}
use Rattle.std.proofs.lemmas.Bool.{cases_lt, cases_Bool}
use Rattle.lat_core.specs.Names.{IsDeclaredName}
use Rattle.lat_language.specs.declared.commands.Command.{Command}
use Rattle.lat_language.specs.declared.scripts.TheConstants.{MAX_LINE, MAX_COMMANDS, MAX_SESSIONS}
use Rattle.lat_language.specs.declared.scripts.Script.{Script}
use Rattle.lat_language.specs.declared.script_faults.TheConstants.{TOO_LONG, NO_HEADER, NO_FORM, AFTER_SCHEDULE, TOO_MANY_SESSIONS, SESSION_TWICE, TOO_MANY_COMMANDS, NO_SESSION}
use Rattle.lat_language.specs.Commands.{SpellsCommand}
use Rattle.lat_language.specs.Grammar.{lines_of, words_of, first_byte, IsPassedOver, header_words, SpellsSession, SpellsSchedule, State, at_start, script_of, session_names, command_count, Form, PassedOver, Header, OfCommand, OfSession, OfSchedule, after, Says, Means, Spells, FirstBad}
use Rattle.lat_language.specs.PrivateDecisions.{Decided, same_text, same_words, decide_passed_by, decide_declared, decide_all_declared}
use Rattle.lat_language.proofs.CommandWords.{decide_command}
use Rattle.lat_language.proofs.SessionPlaces.{decide_name_there, decide_all_there}
use Rattle.lat_language.proofs.LineMeanings.{says_too_long, says_no_header, says_passed, says_header, says_no_form, says_command_late, says_too_many, says_command, says_session_late, says_too_many_sessions, says_twice, says_session, says_unknown, says_schedule}

-- words begin a session or not
session_words : (first name : List ℕ) → Decided (first ≡ codes "session") → Decided (IsDeclaredName name)
    → Decided ((n : List ℕ) × SpellsSession (first ∷ name ∷ []) n)
session_words first name (inl e) (inl h) = inl (name, (ap (λ w. w ∷ name ∷ []) e, h))
session_words first name (inl e) (inr none) = inr (λ h. refuted h.0 h.1) where
  refuted : (n : List ℕ) → SpellsSession (first ∷ name ∷ []) n → ⊥
  refuted n h =
      let words = h.0 in
      let same : n ≡ name = cc in
      none (subst IsDeclaredName same h.1)
session_words first name (inr other) h = inr (λ spelled. let words = spelled.1.0 in other (cc))

decide_session : (words : List (List ℕ)) → Decided ((n : List ℕ) × SpellsSession words n)
decide_session [] = inr (λ h. let words = h.1.0 in cc)
decide_session (a ∷ []) = inr (λ h. let words = h.1.0 in cc)
decide_session (a ∷ b ∷ []) = session_words a b (same_text a (codes "session")) (decide_declared b)
decide_session (a ∷ b ∷ c ∷ more) = inr (λ h. let words = h.1.0 in cc)

-- words schedule sessions or not
schedule_words : (first : List ℕ) (names : List (List ℕ)) → Decided (first ≡ codes "schedule")
    → Decided (0 < length names) → Decided (All IsDeclaredName names)
    → Decided ((ns : List (List ℕ)) × SpellsSchedule (first ∷ names) ns)
schedule_words first names (inl e) (inl some) (inl all) = inl (names, (ap (λ w. w ∷ names) e, some, all))
schedule_words first names (inr other) some all = inr (λ h. let words = h.1.0 in other (cc))
schedule_words first names (inl e) (inr none) all = inr (λ h. refuted h.0 h.1) where
  refuted : (ns : List (List ℕ)) → SpellsSchedule (first ∷ names) ns → ⊥
  refuted ns h =
      let words = h.0 in
      let same : ns ≡ names = cc in
      none (subst (λ ns. 0 < length ns) same h.1)
schedule_words first names (inl e) (inl some) (inr none) = inr (λ h. refuted h.0 h.1) where
  refuted : (ns : List (List ℕ)) → SpellsSchedule (first ∷ names) ns → ⊥
  refuted ns h =
      let words = h.0 in
      let same : ns ≡ names = cc in
      none (subst (All IsDeclaredName) same h.2)

decide_some : (names : List (List ℕ)) → Decided (0 < length names)
decide_some [] = inr (λ h. omega (arith, h))
decide_some (name ∷ names) = inl (omega arith)

decide_schedule : (words : List (List ℕ)) → Decided ((ns : List (List ℕ)) × SpellsSchedule words ns)
decide_schedule [] = inr (λ h. let words = h.1.0 in cc)
decide_schedule (a ∷ names) = schedule_words a names (same_text a (codes "schedule")) (decide_some names) (decide_all_declared names)

abbrev SaysSome : State → List ℕ → Type 0
SaysSome state line = (said : Result Form ℕ) × Says state line said

module _ (state : State) (line : List ℕ) where
  module _ (fits : length line ≤ MAX_LINE) where
    module _ (begun : state.begun ≡ true) where
      some_command : (c : Command) → SpellsCommand (words_of line) c → SaysSome state line
      some_command c spelled = elim (cases_lt 0 (length state.schedule)) [
        | inl late ↦ (Err AFTER_SCHEDULE, says_command_late state line fits begun c spelled late)
        | inr early ↦
            let not_late : 0 < length state.schedule → ⊥ = λ late. omega (arith, late, early) in
            elim (cases_lt (command_count state) MAX_COMMANDS) [
              | inl room ↦ (Ok (OfCommand c), says_command state line fits begun c spelled not_late room)
              | inr full ↦ (Err TOO_MANY_COMMANDS, says_too_many state line fits begun c spelled not_late full)
            ]
      ]

      some_session : (name : List ℕ) → SpellsSession (words_of line) name → SaysSome state line
      some_session name spelled = elim (cases_lt 0 (length state.schedule)) [
        | inl late ↦ (Err AFTER_SCHEDULE, says_session_late state line fits begun name spelled late)
        | inr early ↦
            let not_late : 0 < length state.schedule → ⊥ = λ late. omega (arith, late, early) in
            elim (cases_lt (length state.sessions) MAX_SESSIONS) [
              | inl room ↦ elim (decide_name_there (session_names state.sessions) name) [
                | inl there ↦ (Err SESSION_TWICE, says_twice state line fits begun name spelled not_late room there)
                | inr new_name ↦ (Ok (OfSession name), says_session state line fits begun name spelled not_late room new_name)
              ]
              | inr full ↦ (Err TOO_MANY_SESSIONS, says_too_many_sessions state line fits begun name spelled not_late full)
            ]
      ]

      some_schedule : (names : List (List ℕ)) → SpellsSchedule (words_of line) names
          → SaysSome state line
      some_schedule names spelled = elim (decide_all_there (session_names state.sessions) names) [
        | inl known ↦ (Ok (OfSchedule names), says_schedule state line fits begun names spelled known)
        | inr unknown ↦ (Err NO_SESSION, says_unknown state line fits begun names spelled unknown)
      ]

      says_begun : ¬ (IsPassedOver line)
          → Decided ((c : Command) × SpellsCommand (words_of line) c)
          → Decided ((name : List ℕ) × SpellsSession (words_of line) name)
          → Decided ((names : List (List ℕ)) × SpellsSchedule (words_of line) names)
          → SaysSome state line
      says_begun other (inl c) n ns = some_command c.0 c.1
      says_begun other (inr no_command) (inl n) ns = some_session n.0 n.1
      says_begun other (inr no_command) (inr no_session) (inl ns) = some_schedule ns.0 ns.1
      says_begun other (inr no_command) (inr no_session) (inr no_schedule) =
          (Err NO_FORM, says_no_form state line fits begun other (λ c h. no_command (c, h)) (λ n h. no_session (n, h)) (λ ns h. no_schedule (ns, h)))

    says_not_begun : state.begun ≡ false → ¬ (IsPassedOver line)
        → Decided (words_of line ≡ header_words) → SaysSome state line
    says_not_begun not_yet other (inl header) = (Ok Header, says_header state line fits not_yet header)
    says_not_begun not_yet other (inr no_header) = (Err NO_HEADER, says_no_header state line fits not_yet other no_header)

    says_fitting : Decided (IsPassedOver line) → SaysSome state line
    says_fitting (inl passed) = (Ok PassedOver, says_passed state line fits passed)
    says_fitting (inr other) = elim (cases_Bool state.begun) [
      | inl begun ↦ says_begun begun other (decide_command (words_of line)) (decide_session (words_of line)) (decide_schedule (words_of line))
      | inr not_yet ↦ says_not_begun not_yet other (same_words (words_of line) header_words)
    ]

  -- a line says a form or has a fault
  says_some : SaysSome state line
  says_some = elim (cases_lt MAX_LINE (length line)) [
    | inl long ↦ (Err TOO_LONG, says_too_long state line long)
    | inr fits ↦ says_fitting fits (decide_passed_by (first_byte line))
  ]

-- lines have a reading
abbrev MeansSome : State → ℕ → List (List ℕ) → Type 0
MeansSome state n lines = (read : Result Script (ℕ × ℕ)) × Means state n lines read

means_after : (state : State) (n : ℕ) (line : List ℕ) (lines : List (List ℕ)) (said : Result Form ℕ)
    → Says state line said → ((form : Form) → MeansSome (after state form) (n + 1) lines)
    → MeansSome state n (line ∷ lines)
means_after state n line lines (Ok form) says rest = ((rest form).0, (Ok form, says, (rest form).1))
means_after state n line lines (Err kind) says rest = (Err (n, kind), (Err kind, says, refl))

means_some : (state : State) (n : ℕ) (lines : List (List ℕ)) → MeansSome state n lines
means_some state n [] = (cond state.begun (Ok (script_of state)) (Err (1, NO_HEADER)), refl)
means_some state n (line ∷ lines) =
    let said = says_some state line in
    means_after state n line lines said.0 said.1 (λ form. means_some (after state form) (n + 1) lines)

-- a text spells a script or has a first fault
pub reading_exists : (bytes : List ℕ)
    → ((script : Script) × Spells bytes script) ⊎ ((n : ℕ) × (kind : ℕ) × FirstBad bytes n kind)
reading_exists bytes = by_reading (means_some at_start 1 (lines_of bytes)) where
  by_reading : MeansSome at_start 1 (lines_of bytes)
      → ((script : Script) × Spells bytes script) ⊎ ((n : ℕ) × (kind : ℕ) × FirstBad bytes n kind)
  by_reading (Ok script, h) = inl (script, h)
  by_reading (Err (n, kind), h) = inr (n, kind, h)
