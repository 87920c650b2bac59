-- What a line says: which form it has, or which fault.
use Rattle.std.proofs.Common.{◌≡◌, ℕ, ◌<◌, ◌≤◌, true, false, cond, eqb, Some, None, Ok, Err, List, [], ◌∷◌, length, sym, refl, ap, ◌∙◌, subst, inl, inr, arith}
use Rattle.std.specs.Prelude.{◌==◌, not, filter, codes, All, Contains, IfSome}
use Rattle.std.specs.List.{slice_split, onto_first}
use Rattle.std.proofs.lemmas.Bool.{true≢false}
use Rattle.lat_language.specs.declared.scripts.TheConstants.{MAX_LINE, MAX_COMMANDS, MAX_SESSIONS}
use Rattle.lat_language.specs.declared.commands.Command.{Command}
use Rattle.lat_language.specs.declared.script_faults.TheConstants.{TOO_LONG, NO_HEADER, NO_FORM, AFTER_SCHEDULE, TOO_MANY_SESSIONS, SESSION_TWICE, TOO_MANY_COMMANDS, NO_SESSION}
use Rattle.lat_language.specs.Commands.{SpellsCommand}
use Rattle.lat_language.specs.Grammar.{words_of, first_byte, IsPassedOver, header_words, SpellsSession, SpellsSchedule, State, session_names, command_count, Form, PassedOver, Header, OfCommand, OfSession, OfSchedule, HasForm, LacksHeader, ComesTooLate, IsOneSessionTooMany, IsSessionTwice, IsOneTooMany, NamesNoSession, Says}
use Rattle.lat_language.specs.PrivateReading.{command_of}
use Rattle.lat_language.specs.PrivateCoefficients.{split_cons}
use Rattle.lat_language.proofs.LinesAndWords.{is_word, word_taken}
use Rattle.lat_language.proofs.CommandWords.{command_unique, none_read}

-- the words of a line, where they are to be computed
abbrev words_in : List ℕ → List (List ℕ)
words_in line = filter is_word (slice_split (λ b. b == 32) line)

-- a line's first byte that isn't a space is that of its first word
first_byte_in : (line : List ℕ) (b : ℕ) (word : List ℕ) (words : List (List ℕ))
    → words_in line ≡ (b ∷ word) ∷ words → first_byte line ≡ Some b
first_byte_in [] b word words e = cc
first_byte_in (x ∷ xs) b word words e =
    let rest = split_cons (λ b. b == 32) xs in
    elim (eqb x 32) as (λ t. filter is_word (cond t ([] ∷ slice_split (λ b. b == 32) xs) (onto_first x (slice_split (λ b. b == 32) xs))) ≡ (b ∷ word) ∷ words → cond (not t) (Some x) (first_byte xs) ≡ Some b) [
      | true ↦ λ h. first_byte_in xs b word words h
      | false ↦ λ h.
          let first : (x ∷ rest.0) ∷ filter is_word rest.1 ≡ (b ∷ word) ∷ words = sym (word_taken (x ∷ rest.0) rest.1 (omega arith)) ∙ sym (ap (λ parts. filter is_word (onto_first x parts)) rest.2) ∙ h in
          let same : x ≡ b = cc in
          ap Some same
    ] e

passed_word : (line : List ℕ) (b : ℕ) (word : List ℕ) (words : List (List ℕ)) → IsPassedOver line
    → words_of line ≡ (b ∷ word) ∷ words → b ≡ 35
unfolding words_of
passed_word line b word words passed e = subst (λ o. IfSome o (λ b. b ≡ 35)) (first_byte_in line b word words e) passed

-- a line that is passed over is of no other form
pub passed_no_header : (line : List ℕ) → IsPassedOver line → words_of line ≡ header_words → ⊥
passed_no_header line passed e = let h = passed_word line _ _ _ passed e in omega arith

passed_reads_none : (line : List ℕ) → IsPassedOver line → (words : List (List ℕ))
    → words_of line ≡ words → command_of words ≡ None
passed_reads_none line passed [] e = refl
passed_reads_none line passed ([] ∷ words) e = refl
passed_reads_none line passed ((b ∷ word) ∷ words) e =
    subst (λ c. command_of ((c ∷ word) ∷ words) ≡ None) (sym (passed_word line b word words passed e)) refl

pub passed_no_command : (line : List ℕ) → IsPassedOver line → (c : Command)
    → SpellsCommand (words_of line) c → ⊥
passed_no_command line passed c spelled = none_read (words_of line) c (passed_reads_none line passed (words_of line) refl) spelled

pub passed_no_session : (line : List ℕ) → IsPassedOver line → (name : List ℕ)
    → SpellsSession (words_of line) name → ⊥
passed_no_session line passed name spelled = let h = passed_word line _ _ _ passed spelled.0 in omega arith

pub passed_no_schedule : (line : List ℕ) → IsPassedOver line → (names : List (List ℕ))
    → SpellsSchedule (words_of line) names → ⊥
passed_no_schedule line passed names spelled = let h = passed_word line _ _ _ passed spelled.0 in omega arith

-- nor are the header, a `session` line and a `schedule` line
pub header_no_command : (words : List (List ℕ)) → words ≡ header_words → (c : Command)
    → SpellsCommand words c → ⊥
header_no_command words e c spelled = none_read words c (ap command_of e) spelled

pub session_no_command : (words : List (List ℕ)) (name : List ℕ) → SpellsSession words name
    → (c : Command) → SpellsCommand words c → ⊥
session_no_command words name h c spelled = none_read words c (ap command_of h.0) spelled

pub schedule_no_command : (words names : List (List ℕ)) → SpellsSchedule words names
    → (c : Command) → SpellsCommand words c → ⊥
schedule_no_command words names h c spelled = none_read words c (ap command_of h.0) spelled

pub header_no_session : (words : List (List ℕ)) → words ≡ header_words → (name : List ℕ)
    → SpellsSession words name → ⊥
header_no_session words e name spelled =
    let same : header_words ≡ codes "session" ∷ name ∷ [] = sym e ∙ spelled.0 in
    let first : ◌≡◌ {A = ℕ} 108 115 = cc in
    omega arith

pub header_no_schedule : (words : List (List ℕ)) → words ≡ header_words
    → (names : List (List ℕ)) → SpellsSchedule words names → ⊥
header_no_schedule words e names spelled =
    let same : header_words ≡ codes "schedule" ∷ names = sym e ∙ spelled.0 in
    let first : ◌≡◌ {A = ℕ} 108 115 = cc in
    omega arith

pub session_no_schedule : (words : List (List ℕ)) (name : List ℕ) → SpellsSession words name
    → (names : List (List ℕ)) → SpellsSchedule words names → ⊥
session_no_schedule words name h names spelled =
    let same : codes "session" ∷ name ∷ [] ≡ codes "schedule" ∷ names = sym h.0 ∙ spelled.0 in
    let second : ◌≡◌ {A = ℕ} 101 99 = cc in
    omega arith

-- a line has one form
session_unique : (words : List (List ℕ)) (m n : List ℕ) → SpellsSession words m
    → SpellsSession words n → m ≡ n
session_unique words m n h h' =
    let same : codes "session" ∷ m ∷ [] ≡ codes "session" ∷ n ∷ [] = sym h.0 ∙ h'.0 in
    cc

pub schedule_unique : (words : List (List ℕ)) (m n : List (List ℕ)) → SpellsSchedule words m
    → SpellsSchedule words n → m ≡ n
schedule_unique words m n h h' =
    let same : codes "schedule" ∷ m ≡ codes "schedule" ∷ n = sym h.0 ∙ h'.0 in
    cc

pub form_unique : (state : State) (line : List ℕ) (r s : Form) → HasForm state line r
    → HasForm state line s → r ≡ s
form_unique state line PassedOver PassedOver h h' = refl
form_unique state line PassedOver Header h h' = absurd (passed_no_header line h h'.0)
form_unique state line PassedOver (OfCommand c) h h' = absurd (passed_no_command line h c h')
form_unique state line PassedOver (OfSession n) h h' = absurd (passed_no_session line h n h')
form_unique state line PassedOver (OfSchedule ns) h h' = absurd (passed_no_schedule line h ns h')
form_unique state line Header PassedOver h h' = absurd (passed_no_header line h' h.0)
form_unique state line Header Header h h' = refl
form_unique state line Header (OfCommand c) h h' = absurd (header_no_command (words_of line) h.0 c h')
form_unique state line Header (OfSession n) h h' = absurd (header_no_session (words_of line) h.0 n h')
form_unique state line Header (OfSchedule ns) h h' = absurd (header_no_schedule (words_of line) h.0 ns h')
form_unique state line (OfCommand c) PassedOver h h' = absurd (passed_no_command line h' c h)
form_unique state line (OfCommand c) Header h h' = absurd (header_no_command (words_of line) h'.0 c h)
form_unique state line (OfCommand c) (OfCommand d) h h' = ap OfCommand (command_unique (words_of line) c d h h')
form_unique state line (OfCommand c) (OfSession n) h h' = absurd (session_no_command (words_of line) n h' c h)
form_unique state line (OfCommand c) (OfSchedule ns) h h' = absurd (schedule_no_command (words_of line) ns h' c h)
form_unique state line (OfSession n) PassedOver h h' = absurd (passed_no_session line h' n h)
form_unique state line (OfSession n) Header h h' = absurd (header_no_session (words_of line) h'.0 n h)
form_unique state line (OfSession n) (OfCommand c) h h' = absurd (session_no_command (words_of line) n h c h')
form_unique state line (OfSession m) (OfSession n) h h' = ap OfSession (session_unique (words_of line) m n h h')
form_unique state line (OfSession n) (OfSchedule ns) h h' = absurd (session_no_schedule (words_of line) n h ns h')
form_unique state line (OfSchedule ns) PassedOver h h' = absurd (passed_no_schedule line h' ns h)
form_unique state line (OfSchedule ns) Header h h' = absurd (header_no_schedule (words_of line) h'.0 ns h)
form_unique state line (OfSchedule ns) (OfCommand c) h h' = absurd (schedule_no_command (words_of line) ns h c h')
form_unique state line (OfSchedule ns) (OfSession n) h h' = absurd (session_no_schedule (words_of line) n h' ns h)
form_unique state line (OfSchedule ms) (OfSchedule ns) h h' = ap OfSchedule (schedule_unique (words_of line) ms ns h h')

module _ (state : State) (line : List ℕ) where
  -- a line that is too long says so
  pub says_too_long : MAX_LINE < length line → Says state line (Err TOO_LONG)
  unfolding Says
  says_too_long long = inl (long, refl)

  module _ (fits : length line ≤ MAX_LINE) where
    no_long : MAX_LINE < length line → ⊥
    no_long long = omega arith

    -- a first line that is no header says so
    pub says_no_header : state.begun ≡ false → ¬ (IsPassedOver line)
        → ¬ (words_of line ≡ header_words) → Says state line (Err NO_HEADER)
    unfolding Says
    says_no_header begun other no_header = inr (no_long, inl ((begun, other, λ h. no_header h.0), refl))

    -- a line of a form, where the conditions on this form fail
    module _ (form : Form) (has : HasForm state line form) where
      no_none : ((form : Form) → ¬ (HasForm state line form)) → ⊥
      no_none none = none form has

      is_the : (other : Form) → HasForm state line other → form ≡ other
      is_the other = form_unique state line form other has

      says_form : ¬ (LacksHeader state line) → ¬ (ComesTooLate state line)
          → ¬ (IsOneSessionTooMany state line) → ¬ (IsSessionTwice state line)
          → ¬ (IsOneTooMany state line) → ¬ (NamesNoSession state line)
          → Says state line (Ok form)
      unfolding Says
      says_form header late many twice much unknown = (has, (no_long, (header, (no_none, (late, (many, (twice, (much, (unknown, tt)))))))))

      -- and where the line is no command, no `session` line, no `schedule` line
      module _ (no_command : (c : Command) → form ≡ OfCommand c → ⊥) where
        not_much : ¬ (IsOneTooMany state line)
        not_much h = no_command h.1.0 (is_the (OfCommand h.1.0) h.1.1)

      module _ (no_session : (name : List ℕ) → form ≡ OfSession name → ⊥) where
        not_many : ¬ (IsOneSessionTooMany state line)
        not_many h = no_session h.1.0 (is_the (OfSession h.1.0) h.1.1)

        not_twice : ¬ (IsSessionTwice state line)
        not_twice h = no_session h.0 (is_the (OfSession h.0) h.1)

      module _ (no_schedule : (names : List (List ℕ)) → form ≡ OfSchedule names → ⊥) where
        not_unknown : ¬ (NamesNoSession state line)
        not_unknown h = no_schedule h.0 (is_the (OfSchedule h.0) h.1)

      not_late : ((c : Command) → form ≡ OfCommand c → ⊥)
          → ((name : List ℕ) → form ≡ OfSession name → ⊥) → ¬ (ComesTooLate state line)
      not_late no_command no_session h = elim h.1 [
        | inl c ↦ no_command c.0 (is_the (OfCommand c.0) c.1)
        | inr n ↦ no_session n.0 (is_the (OfSession n.0) n.1)
      ]

    -- a line that is passed over
    pub says_passed : IsPassedOver line → Says state line (Ok PassedOver)
    says_passed passed =
        says_form PassedOver passed (λ h. h.1 passed) (not_late PassedOver passed (λ c e. cc) (λ n e. cc))
        (not_many PassedOver passed (λ n e. cc)) (not_twice PassedOver passed (λ n e. cc))
        (not_much PassedOver passed (λ c e. cc)) (not_unknown PassedOver passed (λ ns e. cc))

    -- the header
    pub says_header : state.begun ≡ false → words_of line ≡ header_words
        → Says state line (Ok Header)
    says_header begun header =
        let has : HasForm state line Header = (header, begun) in
        says_form Header has (λ h. h.2 has) (not_late Header has (λ c e. cc) (λ n e. cc))
        (not_many Header has (λ n e. cc)) (not_twice Header has (λ n e. cc))
        (not_much Header has (λ c e. cc)) (not_unknown Header has (λ ns e. cc))

    module _ (begun : state.begun ≡ true) where
      has_begun : state.begun ≡ false → ⊥
      has_begun not_yet = true≢false (sym begun ∙ not_yet)

      begun_no_lack : ¬ (LacksHeader state line)
      begun_no_lack h = has_begun h.0

      -- a line after the header that has no form
      pub says_no_form : ¬ (IsPassedOver line)
          → ((c : Command) → ¬ (SpellsCommand (words_of line) c))
          → ((name : List ℕ) → ¬ (SpellsSession (words_of line) name))
          → ((names : List (List ℕ)) → ¬ (SpellsSchedule (words_of line) names))
          → Says state line (Err NO_FORM)
      unfolding Says
      says_no_form other no_command no_session no_schedule = inr (no_long, inr (begun_no_lack, inl ((λ form. not_of_form form), refl))) where
        not_of_form : (form : Form) → ¬ (HasForm state line form)
        not_of_form PassedOver h = other h
        not_of_form Header h = has_begun h.1
        not_of_form (OfCommand c) h = no_command c h
        not_of_form (OfSession n) h = no_session n h
        not_of_form (OfSchedule ns) h = no_schedule ns h

      -- a command
      module _ (c : Command) (spelled : SpellsCommand (words_of line) c) where
        pub says_command_late : 0 < length state.schedule → Says state line (Err AFTER_SCHEDULE)
        unfolding Says
        says_command_late late = inr (no_long, inr (begun_no_lack, inr (no_none (OfCommand c) spelled, inl ((late, inl (c, spelled)), refl))))

        module _ (early : 0 < length state.schedule → ⊥) where
          pub says_too_many : MAX_COMMANDS ≤ command_count state
              → Says state line (Err TOO_MANY_COMMANDS)
          unfolding Says
          says_too_many full = inr (no_long, inr (begun_no_lack, inr (no_none (OfCommand c) spelled, inr ((λ h. early h.0), inr (not_many (OfCommand c) spelled (λ n e. cc), inr (not_twice (OfCommand c) spelled (λ n e. cc), inl ((full, (c, spelled)), refl)))))))

          pub says_command : command_count state < MAX_COMMANDS → Says state line (Ok (OfCommand c))
          says_command room =
              says_form (OfCommand c) spelled begun_no_lack (λ h. early h.0)
              (not_many (OfCommand c) spelled (λ n e. cc)) (not_twice (OfCommand c) spelled (λ n e. cc))
              (λ h. let full = h.0 in omega arith) (not_unknown (OfCommand c) spelled (λ ns e. cc))

      -- a `session` line
      module _ (name : List ℕ) (spelled : SpellsSession (words_of line) name) where
        pub says_session_late : 0 < length state.schedule → Says state line (Err AFTER_SCHEDULE)
        unfolding Says
        says_session_late late = inr (no_long, inr (begun_no_lack, inr (no_none (OfSession name) spelled, inl ((late, inr (name, spelled)), refl))))

        module _ (early : 0 < length state.schedule → ⊥) where
          pub says_too_many_sessions : MAX_SESSIONS ≤ length state.sessions
              → Says state line (Err TOO_MANY_SESSIONS)
          unfolding Says
          says_too_many_sessions full = inr (no_long, inr (begun_no_lack, inr (no_none (OfSession name) spelled, inr ((λ h. early h.0), inl ((full, (name, spelled)), refl)))))

          module _ (room : length state.sessions < MAX_SESSIONS) where
            session_room : ¬ (IsOneSessionTooMany state line)
            session_room h = let full = h.0 in omega arith

            pub says_twice : Contains (session_names state.sessions) name
                → Says state line (Err SESSION_TWICE)
            unfolding Says
            says_twice there = inr (no_long, inr (begun_no_lack, inr (no_none (OfSession name) spelled, inr ((λ h. early h.0), inr (session_room, inl ((name, spelled, there), refl))))))

            pub says_session : ¬ (Contains (session_names state.sessions) name)
                → Says state line (Ok (OfSession name))
            says_session new =
                says_form (OfSession name) spelled begun_no_lack (λ h. early h.0) session_room
                (λ h. new (subst (Contains (session_names state.sessions)) (session_unique (words_of line) h.0 name h.1 spelled) h.2))
                (not_much (OfSession name) spelled (λ c e. cc)) (not_unknown (OfSession name) spelled (λ ns e. cc))

      -- a `schedule` line
      module _ (names : List (List ℕ)) (spelled : SpellsSchedule (words_of line) names) where
        pub says_unknown : ¬ (All (Contains (session_names state.sessions)) names)
            → Says state line (Err NO_SESSION)
        unfolding Says
        says_unknown unknown = inr (no_long, inr (begun_no_lack, inr (no_none (OfSchedule names) spelled, inr (not_late (OfSchedule names) spelled (λ c e. cc) (λ n e. cc), inr (not_many (OfSchedule names) spelled (λ n e. cc), inr (not_twice (OfSchedule names) spelled (λ n e. cc), inr (not_much (OfSchedule names) spelled (λ c e. cc), inl ((names, spelled, unknown), refl))))))))

        pub says_schedule : All (Contains (session_names state.sessions)) names
            → Says state line (Ok (OfSchedule names))
        says_schedule known =
            says_form (OfSchedule names) spelled begun_no_lack
            (not_late (OfSchedule names) spelled (λ c e. cc) (λ n e. cc))
            (not_many (OfSchedule names) spelled (λ n e. cc)) (not_twice (OfSchedule names) spelled (λ n e. cc))
            (not_much (OfSchedule names) spelled (λ c e. cc))
            (λ h. h.2 (subst (All (Contains (session_names state.sessions))) (schedule_unique (words_of line) names h.0 spelled h.1) known))
