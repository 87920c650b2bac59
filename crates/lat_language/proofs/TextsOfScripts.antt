-- A text spells a script exactly where its lines are the script's.
use Rattle.std.proofs.Common.{◌≡◌, ◌≢◌, ℕ, ◌+◌, ◌<◌, ◌≤◌, true, false, cond, Ok, Err, List, [], ◌∷◌, ◌++◌, length, map, sym, refl, ap, ap₂, ◌∙◌, subst, inl, inr, arith, append_assoc, length-append}
use Rattle.std.specs.Prelude.{◌⊎◌, All, Contains, codes, flat_map}
use Rattle.std.proofs.lemmas.Bool.{cases_lt, true≢false}
use Rattle.std.proofs.lemmas.Grind.{flat_map-append}
use Rattle.std.proofs.lemmas.List.{append-nil, length-map, map-append, get_or_default}
use Rattle.std.proofs.lemmas.List.Concat.{length-flat_map}
use Rattle.std.proofs.lemmas.List.Elements.{All-nil, All-cons, All-head, All-tail, All-append, All-push, All-weaker, All-map, All-contains}
use Rattle.lat_core.specs.Names.{IsDeclaredName}
use Rattle.lat_language.specs.declared.commands.Command.{Command}
use Rattle.lat_language.specs.declared.scripts.TheConstants.{MAX_LINE}
use Rattle.lat_language.specs.declared.scripts.Script.{Script}
use Rattle.lat_language.specs.declared.scripts.SessionScript.{SessionScript}
use Rattle.lat_language.specs.declared.script_faults.TheConstants.{NO_HEADER}
use Rattle.lat_language.specs.Commands.{command_words, SpellsCommand}
use Rattle.lat_language.specs.Grammar.{lines_of, words_of, first_byte, IsPassedOver, header_words, State, at_start, script_of, session_names, session_commands, place_of, Form, PassedOver, Header, OfCommand, OfSession, OfSchedule, new_session, add_to_last, after, Says, Means, Spells}
use Rattle.lat_language.specs.CanonicalText.{session_lines}
use Rattle.lat_language.specs.PrivateDecisions.{Decided, decide_passed_by}
use Rattle.lat_language.specs.Theorems.{text_lines, commands_of, IsTextOf}
use Rattle.lat_language.proofs.LineMeanings.{passed_no_header, passed_no_command, passed_no_session, passed_no_schedule, header_no_command, header_no_session, header_no_schedule, says_passed}
use Rattle.lat_language.proofs.SessionPlaces.{decide_all_there}
use Rattle.lat_language.proofs.SpelledScripts.{IsGrammatical, IsGrammaticalSession, IsPrintable, Read, by_begun, prologue_same, place_within, spelled_printable}
use Rattle.lat_language.proofs.TakenLines.{taken_words, words_passed, words_taken, words_append}
use Rattle.lat_language.proofs.LedStates.{Leads, led_ends, begun_with, schedule_said, whole_lead}

-- all names of some lists
abbrev all_names : List (List (List ℕ)) → List (List ℕ)
all_names scheduled = flat_map (λ names. names) scheduled

abbrev schedule_line : List (List ℕ) → List (List ℕ)
schedule_line names = codes "schedule" ∷ names

-- ---- from the lines to the script
-- lines whose words lead to a state say what its script is
abbrev MeansScript : List (List ℕ) → ℕ → State → Type 0
MeansScript lines n final = (words : List (List (List ℕ))) (state : State)
    → taken_words lines ≡ words → Leads state words final
    → Means state n lines (Ok (script_of final))

no_line_means : (n : ℕ) (final : State) → final.begun ≡ true → MeansScript [] n final
no_line_means n final begun [] state same l = led_ends state final n begun l
no_line_means n final begun (w ∷ words) state same l = absurd (cc)

module _ (line : List ℕ) (lines : List (List ℕ)) (n : ℕ) (final : State)
    (fits : length line ≤ MAX_LINE) (more : MeansScript lines (n + 1) final) where
  taken_means : (words : List (List (List ℕ))) (state : State)
      → words_of line ∷ taken_words lines ≡ words → Leads state words final
      → Means state n (line ∷ lines) (Ok (script_of final))
  taken_means [] state same l = absurd (cc)
  taken_means (w ∷ words) state same l =
      let first : words_of line ≡ w = cc in
      let others : taken_words lines ≡ words = cc in
      (Ok l.0, l.1 line fits first, more words (after state l.0) others l.2)

  line_means : Decided (IsPassedOver line) → MeansScript (line ∷ lines) n final
  line_means (inl passed) words state same l =
      (Ok PassedOver, says_passed state line fits passed, more words state (sym (words_passed line lines passed) ∙ same) l)
  line_means (inr other) words state same l =
      taken_means words state (sym (words_taken line lines other) ∙ same) l

lines_mean : (lines : List (List ℕ)) (n : ℕ) (final : State) → final.begun ≡ true
    → All (λ line. length line ≤ MAX_LINE) lines → MeansScript lines n final
lines_mean [] n final begun short = no_line_means n final begun
lines_mean (line ∷ lines) n final begun short =
    line_means line lines n final (All-head (λ line. length line ≤ MAX_LINE) line lines short)
    (lines_mean lines (n + 1) final begun (All-tail (λ line. length line ≤ MAX_LINE) line lines short))
    (decide_passed_by (first_byte line))

-- lines that schedule sessions lead to their places
schedule_leads : (scheduled : List (List (List ℕ))) (prologue : List Command)
    (sessions : List SessionScript) (done : List ℕ) → All IsDeclaredName (session_names sessions)
    → All (λ names. 0 < length names) scheduled
    → All (All (Contains (session_names sessions))) scheduled
    → Leads (begun_with prologue sessions done) (map schedule_line scheduled)
    (begun_with prologue sessions (done ++ map (place_of (session_names sessions)) (all_names scheduled)))
schedule_leads [] prologue sessions done declared some known =
    ap (begun_with prologue sessions) (sym (append-nil done))
schedule_leads (names ∷ more) prologue sessions done declared some known =
    let there = session_names sessions in
    let here : All (Contains there) names = All-head (All (Contains there)) names more known in
    let place = place_of there in
    let split : (done ++ map place names) ++ map place (all_names more) ≡ done ++ map place (all_names (names ∷ more)) =
    append_assoc done (map place names) (map place (all_names more))
    ∙ ap (λ t. done ++ t) (sym (map-append place names (all_names more))) in (
      OfSchedule names,
      schedule_said (begun_with prologue sessions done) refl names (All-head (λ names. 0 < length names) names more some)
          (All-weaker (Contains there) IsDeclaredName (λ name c. All-contains IsDeclaredName there name declared c) names here) here,
      subst (λ places. Leads (begun_with prologue sessions (done ++ map place names)) (map schedule_line more) (begun_with prologue sessions places)) split
          (schedule_leads more prologue sessions (done ++ map place names) declared (All-tail (λ names. 0 < length names) names more some) (All-tail (All (Contains there)) names more known)),
    )

-- ---- what the lines of a script hold
all_left : {A : Type 0} (P : A → Type 0) (xs ys : List A) → All P (xs ++ ys) → All P xs
all_left P [] ys all = All-nil P
all_left P (x ∷ xs) ys all = All-cons P x xs (All-head P x (xs ++ ys) all) (all_left P xs ys (All-tail P x (xs ++ ys) all))

all_right : {A : Type 0} (P : A → Type 0) (xs ys : List A) → All P (xs ++ ys) → All P ys
all_right P [] ys all = all
all_right P (x ∷ xs) ys all = all_right P xs ys (All-tail P x (xs ++ ys) all)

all_joined : {A : Type 0} (P : A → Type 0) (xss : List (List A)) → All (All P) xss
    → All P (flat_map (λ xs. xs) xss)
all_joined P [] all = All-nil P
all_joined P (xs ∷ xss) all =
    All-append P xs (flat_map (λ xs. xs) xss) (All-head (All P) xs xss all) (all_joined P xss (All-tail (All P) xs xss all))

abbrev commands_in : List SessionScript → List Command
commands_in sessions = flat_map (λ (s : SessionScript). s.commands) sessions

good_sessions : (sessions : List SessionScript) → All IsDeclaredName (session_names sessions)
    → All IsGrammatical (commands_in sessions) → All IsGrammaticalSession sessions
good_sessions [] declared good = All-nil IsGrammaticalSession
good_sessions (s ∷ more) declared good =
    All-cons IsGrammaticalSession s more
    (record {
      name = All-head IsDeclaredName s.name (session_names more) declared;
      commands = all_left IsGrammatical s.commands (commands_in more) good;
    })
    (good_sessions more (All-tail IsDeclaredName s.name (session_names more) declared)
    (all_right IsGrammatical s.commands (commands_in more) good))

session_commands_good : (sessions : List SessionScript) → All IsGrammaticalSession sessions
    → All IsGrammatical (commands_in sessions)
session_commands_good [] good = All-nil IsGrammatical
session_commands_good (s ∷ more) good =
    All-append IsGrammatical s.commands (commands_in more) (All-head IsGrammaticalSession s more good).commands
    (session_commands_good more (All-tail IsGrammaticalSession s more good))

session_names_good : (sessions : List SessionScript) → All IsGrammaticalSession sessions
    → All IsDeclaredName (session_names sessions)
session_names_good sessions good =
    All-map IsDeclaredName (λ (s : SessionScript). s.name) sessions
    (All-weaker IsGrammaticalSession (λ (s : SessionScript). IsDeclaredName s.name) (λ s h. h.name) sessions good)

-- how many commands there are
commands_counted : (script : Script) → length (commands_of script)
    ≡ length script.prologue + session_commands script.sessions
commands_counted script =
    length-append script.prologue (commands_in script.sessions)
    ∙ ap (λ n. length script.prologue + n) (length-flat_map (λ (s : SessionScript). s.commands) script.sessions)

module _ (bytes : List ℕ) (script : Script) (text : IsTextOf bytes script) where
  text_printable : IsPrintable script
  text_printable =
      let good : All IsGrammatical (commands_of script) =
      All-weaker (λ c. SpellsCommand (command_words c) c) IsGrammatical (λ c h. h.1) (commands_of script) text.commands in
      let few = text.few_commands in
      let count : length (session_names script.sessions) ≡ length script.sessions = length-map script.sessions (λ (s : SessionScript). s.name) in
      let placed : All (λ place. place < length script.sessions) (map (place_of (session_names script.sessions)) (all_names text.scheduled)) =
      All-map (λ place. place < length script.sessions) (place_of (session_names script.sessions)) (all_names text.scheduled)
      (All-weaker (Contains (session_names script.sessions)) (λ name. place_of (session_names script.sessions) name < length script.sessions)
      (λ name here. subst (λ n. place_of (session_names script.sessions) name < n) count (place_within (session_names script.sessions) name here))
      (all_names text.scheduled) (all_joined (Contains (session_names script.sessions)) text.scheduled text.known)) in
      record {
        prologue = all_left IsGrammatical script.prologue (commands_in script.sessions) good;
        sessions = good_sessions script.sessions text.names (all_right IsGrammatical script.prologue (commands_in script.sessions) good);
        distinct = λ i j less within. text.distinct i j [] less within;
        few = text.few_sessions;
        room = omega (arith, few, commands_counted script);
        places = subst (All (λ place. place < length script.sessions)) (sym text.places) placed;
      }

  -- **a text whose lines are a script's spells it**
  pub text_is_spelled : Spells bytes script
  text_is_spelled =
      let schedule : Leads (begun_with script.prologue script.sessions []) (map schedule_line text.scheduled) (begun_with script.prologue script.sessions script.schedule) =
      subst (λ places. Leads (begun_with script.prologue script.sessions []) (map schedule_line text.scheduled) (begun_with script.prologue script.sessions places)) (sym text.places)
      (schedule_leads text.scheduled script.prologue script.sessions [] text.names text.some text.known) in
      lines_mean (lines_of bytes) 1 (begun_with script.prologue script.sessions script.schedule) refl text.short (text_lines script text.scheduled) at_start text.lines
      (whole_lead script text_printable (map schedule_line text.scheduled) schedule)

-- ---- from the script to the lines
-- the words of the lines so far are those of the script so far
record AreLinesOf (script : Script) (words : List (List (List ℕ))) : Type 0 where
  pub scheduled : List (List (List ℕ))
  pub lines : words ≡ text_lines script scheduled
  pub some : All (λ names. 0 < length names) scheduled
  pub known : All (All (Contains (session_names script.sessions))) scheduled
  pub places : script.schedule ≡ map (place_of (session_names script.sessions)) (all_names scheduled)

-- no line so far, or the header and others
abbrev Before : State → List (List (List ℕ)) → Type 0
Before state words = ((state ≡ at_start) × (words ≡ []))
    ⊎ ((state.begun ≡ true) × AreLinesOf (script_of state) words)

-- lists that all have members have none only where there is no list
none_joined : (xss : List (List (List ℕ))) → All (λ xs. 0 < length xs) xss
    → length (all_names xss) ≤ 0 → xss ≡ []
none_joined [] some none = refl
none_joined (xs ∷ xss) some none =
    let first = All-head (λ (xs : List (List ℕ)). 0 < length xs) xs xss some in
    absurd (omega (arith, first, none, length-append xs (all_names xss)))

-- where nothing is scheduled, the lines end with the sessions
module _ (state : State) (words : List (List (List ℕ))) (held : AreLinesOf (script_of state) words)
    (early : ¬ (0 < length state.schedule)) where
  no_schedule : held.scheduled ≡ []
  no_schedule = none_joined held.scheduled held.some (
      let same = ap (λ (places : List ℕ). length places) held.places ∙ length-map (all_names held.scheduled) (place_of (session_names state.sessions)) in
      elim (cases_lt 0 (length state.schedule)) [
        | inl late ↦ absurd (early late)
        | inr none ↦ omega (arith, same, none)
      ])

  schedule_empty : state.schedule ≡ []
  schedule_empty = held.places ∙ ap (λ names. map (place_of (session_names state.sessions)) (all_names names)) no_schedule

  lines_before : words ≡ text_lines (script_of state) []
  lines_before = held.lines ∙ ap (text_lines (script_of state)) no_schedule

  -- what lines are where nothing is scheduled after one more
  without_schedule : (script : Script) (more : List (List (List ℕ))) → script.schedule ≡ state.schedule
      → more ≡ text_lines script [] → AreLinesOf script more
  without_schedule script more same lines = record {
    scheduled = [];
    lines = lines;
    some = All-nil (λ names. 0 < length names);
    known = All-nil (All (Contains (session_names script.sessions)));
    places = same ∙ schedule_empty;
  }

-- one list more behind the second of two
behind_second : (ps ss : List (List (List ℕ))) (w : List (List ℕ))
    → (ps ++ (ss ++ [])) ++ w ∷ [] ≡ ps ++ ((ss ++ w ∷ []) ++ [])
behind_second ps ss w =
    append_assoc ps (ss ++ []) (w ∷ [])
    ∙ ap (λ t. ps ++ t) (ap (λ t. t ++ w ∷ []) (append-nil ss) ∙ sym (append-nil (ss ++ w ∷ [])))

-- and behind the first, where there is no second
behind_first : (ps : List (List (List ℕ))) (w : List (List ℕ))
    → (ps ++ []) ++ w ∷ [] ≡ (ps ++ w ∷ []) ++ []
behind_first ps w = ap (λ t. t ++ w ∷ []) (append-nil ps) ∙ sym (append-nil (ps ++ w ∷ []))

-- the lines of sessions with one command more
last_lines : (s : SessionScript) (more : List SessionScript) (c : Command)
    → flat_map session_lines (add_to_last (s ∷ more) c)
    ≡ flat_map session_lines (s ∷ more) ++ command_words c ∷ []
last_lines s [] c =
    let first : List (List ℕ) = codes "session" ∷ s.name ∷ [] in
    append-nil (first ∷ map command_words (s.commands ++ c ∷ []))
    ∙ ap (λ lines. first ∷ lines) (map-append command_words s.commands (c ∷ []))
    ∙ ap (λ lines. lines ++ command_words c ∷ []) (sym (append-nil (first ∷ map command_words s.commands)))
last_lines s (t ∷ more) c =
    ap (λ lines. session_lines s ++ lines) (last_lines t more c)
    ∙ sym (append_assoc (session_lines s) (flat_map session_lines (t ∷ more)) (command_words c ∷ []))

-- the lines with one command more
command_lines : (prologue : List Command) (sessions : List SessionScript) (schedule : List ℕ)
    (c : Command)
    → text_lines (record { prologue = prologue; sessions = sessions; schedule = schedule }) [] ++ command_words c ∷ []
    ≡ text_lines (script_of (after (begun_with prologue sessions schedule) (OfCommand c))) []
command_lines prologue [] schedule c =
    ap (λ lines. header_words ∷ lines) (
    behind_first (map command_words prologue) (command_words c)
    ∙ ap (λ lines. lines ++ []) (sym (map-append command_words prologue (c ∷ [])))
    )
command_lines prologue (s ∷ more) schedule c =
    ap (λ lines. header_words ∷ lines) (
    behind_second (map command_words prologue) (flat_map session_lines (s ∷ more)) (command_words c)
    ∙ ap₂ (λ ps ss. map command_words ps ++ (ss ++ [])) (sym (prologue_same (s ∷ more) prologue c (omega arith))) (sym (last_lines s more c))
    )

-- with one session more
session_more : (prologue : List Command) (sessions : List SessionScript) (schedule : List ℕ)
    (name : List ℕ)
    → text_lines (record { prologue = prologue; sessions = sessions; schedule = schedule }) []
    ++ (codes "session" ∷ name ∷ []) ∷ []
    ≡ text_lines (script_of (after (begun_with prologue sessions schedule) (OfSession name))) []
session_more prologue sessions schedule name =
    ap (λ lines. header_words ∷ lines) (
    behind_second (map command_words prologue) (flat_map session_lines sessions) (codes "session" ∷ name ∷ [])
    ∙ ap (λ ss. map command_words prologue ++ (ss ++ [])) (sym (flat_map-append session_lines sessions (new_session name ∷ [])))
    )

-- with one `schedule` line more
schedule_more : (script : Script) (scheduled : List (List (List ℕ))) (names : List (List ℕ))
    → text_lines script scheduled ++ schedule_line names ∷ []
    ≡ text_lines script (scheduled ++ names ∷ [])
schedule_more script scheduled names =
    let prologue : List (List (List ℕ)) = map command_words script.prologue in
    let sessions : List (List (List ℕ)) = flat_map session_lines script.sessions in
    ap (λ lines. header_words ∷ lines) (
    append_assoc prologue (sessions ++ map schedule_line scheduled) (schedule_line names ∷ [])
    ∙ ap (λ t. prologue ++ t) (
    append_assoc sessions (map schedule_line scheduled) (schedule_line names ∷ [])
    ∙ ap (λ t. sessions ++ t) (sym (map-append schedule_line scheduled (names ∷ [])))
    )
    )

-- ---- one line more
header_held : AreLinesOf (script_of at_start) (header_words ∷ [])
header_held = record {
  scheduled = [];
  lines = refl;
  some = All-nil (λ names. 0 < length names);
  known = All-nil (All (Contains []));
  places = refl;
}

module _ (state : State) (line : List ℕ) (words : List (List (List ℕ))) where
  -- with the words of the line, which isn't passed over
  one_more : (w : List (List ℕ)) → ¬ (IsPassedOver line) → words_of line ≡ w
      → words ++ taken_words (line ∷ []) ≡ words ++ w ∷ []
  one_more w other e = ap (λ t. words ++ t) (words_taken line [] other ∙ ap (λ v. v ∷ []) e)

  begun_held : Before state words → (state.begun ≡ false → ⊥)
      → (state.begun ≡ true) × AreLinesOf (script_of state) words
  begun_held (inl (e, none)) begun = absurd (begun (ap (λ (s : State). s.begun) e))
  begun_held (inr held) begun = held

  after_header : Before state words → state.begun ≡ false
      → AreLinesOf (script_of (after state Header)) (words ++ header_words ∷ [])
  after_header (inl (e, none)) not_yet =
      subst (λ (s : State). AreLinesOf (script_of s) (words ++ header_words ∷ [])) (sym e)
      (subst (λ ws. AreLinesOf (script_of at_start) (ws ++ header_words ∷ [])) (sym none) header_held)
  after_header (inr held) not_yet = absurd (true≢false (sym held.0 ∙ not_yet))

  after_schedule : (names : List (List ℕ)) → 0 < length names
      → All (Contains (session_names state.sessions)) names → AreLinesOf (script_of state) words
      → AreLinesOf (script_of (after state (OfSchedule names))) (words ++ schedule_line names ∷ [])
  after_schedule names some known held =
      let place = place_of (session_names state.sessions) in
      record {
        scheduled = held.scheduled ++ names ∷ [];
        lines = ap (λ ws. ws ++ schedule_line names ∷ []) held.lines ∙ schedule_more (script_of state) held.scheduled names;
        some = All-push (λ names. 0 < length names) held.scheduled names held.some some;
        known = All-push (All (Contains (session_names state.sessions))) held.scheduled names held.known known;
        places =
            ap (λ places. places ++ map place names) held.places
            ∙ sym (map-append place (all_names held.scheduled) names)
            ∙ ap (map place) (ap (λ t. all_names held.scheduled ++ t) (sym (append-nil names)) ∙ sym (flat_map-append (λ names. names) held.scheduled (names ∷ [])));
      }

  goes_on : (form : Form) → Says state line (Ok form) → Before state words
      → Before (after state form) (words ++ taken_words (line ∷ []))
  unfolding Says
  goes_on PassedOver says before =
      subst (Before state) (sym (ap (λ t. words ++ t) (words_passed line [] says.0) ∙ append-nil words)) before
  goes_on Header says before =
      inr (
        refl,
        subst (AreLinesOf (script_of (after state Header))) (sym (one_more header_words (λ p. passed_no_header line p says.0.0) says.0.0))
            (after_header before says.0.1),
      )
  goes_on (OfCommand c) says before =
      let other : ¬ (IsPassedOver line) = λ p. passed_no_command line p c says.0 in
      let held = begun_held before (λ not_yet. says.1.1.0 (not_yet, other, λ h. header_no_command (words_of line) h.0 c says.0)) in
      let early : ¬ (0 < length state.schedule) = λ late. says.1.1.1.1.0 (late, inl (c, says.0)) in
      inr (
        held.0,
        subst (AreLinesOf (script_of (after state (OfCommand c)))) (sym (one_more (command_words c) other says.0.0))
            (without_schedule state words held.1 early (script_of (after state (OfCommand c))) (words ++ command_words c ∷ []) refl
            (ap (λ ws. ws ++ command_words c ∷ []) (lines_before state words held.1 early) ∙ command_lines state.prologue state.sessions state.schedule c)),
      )
  goes_on (OfSession name) says before =
      let other : ¬ (IsPassedOver line) = λ p. passed_no_session line p name says.0 in
      let held = begun_held before (λ not_yet. says.1.1.0 (not_yet, other, λ h. header_no_session (words_of line) h.0 name says.0)) in
      let early : ¬ (0 < length state.schedule) = λ late. says.1.1.1.1.0 (late, inr (name, says.0)) in
      let w : List (List ℕ) = codes "session" ∷ name ∷ [] in
      inr (
        held.0,
        subst (AreLinesOf (script_of (after state (OfSession name)))) (sym (one_more w other says.0.0))
            (without_schedule state words held.1 early (script_of (after state (OfSession name))) (words ++ w ∷ []) refl
            (ap (λ ws. ws ++ w ∷ []) (lines_before state words held.1 early) ∙ session_more state.prologue state.sessions state.schedule name)),
      )
  goes_on (OfSchedule names) says before =
      let other : ¬ (IsPassedOver line) = λ p. passed_no_schedule line p names says.0 in
      let held = begun_held before (λ not_yet. says.1.1.0 (not_yet, other, λ h. header_no_schedule (words_of line) h.0 names says.0)) in
      let known : All (Contains (session_names state.sessions)) names =
      elim (decide_all_there (session_names state.sessions) names) [
        | inl known ↦ known
        | inr unknown ↦ absurd (says.1.1.1.1.1.1.1.1.0 (names, says.0, unknown))
      ] in
      inr (
        held.0,
        subst (AreLinesOf (script_of (after state (OfSchedule names)))) (sym (one_more (schedule_line names) other says.0.0))
            (after_schedule names says.0.1 known held.1),
      )

  fits_line : (form : Form) → Says state line (Ok form) → length line ≤ MAX_LINE
  unfolding Says
  fits_line form says = let no_long = says.1.0 in elim (cases_lt MAX_LINE (length line)) [
    | inl long ↦ absurd (no_long long)
    | inr fits ↦ fits
  ]

-- ---- all lines
-- the lines that end in the script, with what stands before them
record Ends (script : Script) (words : List (List (List ℕ))) (lines : List (List ℕ)) : Type 0 where
  pub short : All (λ line. length line ≤ MAX_LINE) lines
  pub held : AreLinesOf script (words ++ taken_words lines)

no_lines : (state : State) (script : Script) (words : List (List (List ℕ))) → Before state words
    → ◌≡◌ {A = Read} (Ok script) (cond state.begun (Ok (script_of state)) (Err (1, NO_HEADER)))
    → Ends script words []
no_lines state script words (inl (e, none)) means =
    absurd (let is : ◌≡◌ {A = Read} (Ok script) (Err (1, NO_HEADER)) = means ∙ ap (λ (s : State). by_begun s s.begun) e in cc)
no_lines state script words (inr (begun, held)) means =
    let is : ◌≡◌ {A = Read} (Ok script) (Ok (script_of state)) = means ∙ ap (λ b. by_begun state b) begun in
    let same : script_of state ≡ script = cc in
    record {
      short = All-nil (λ line. length line ≤ MAX_LINE);
      held = subst (AreLinesOf script) (sym (append-nil words)) (subst (λ (s : Script). AreLinesOf s words) same held);
    }

ends_more : (state : State) (line : List ℕ) (lines : List (List ℕ)) (script : Script)
    (words : List (List (List ℕ))) (form : Form) → Says state line (Ok form)
    → Ends script (words ++ taken_words (line ∷ [])) lines → Ends script words (line ∷ lines)
ends_more state line lines script words form says rest = record {
  short = All-cons (λ line. length line ≤ MAX_LINE) line lines (fits_line state line words form says) rest.short;
  held = subst (AreLinesOf script) (append_assoc words (taken_words (line ∷ [])) (taken_words lines) ∙ ap (λ t. words ++ t) (sym (words_append line lines))) rest.held;
}

ends : (lines : List (List ℕ)) (state : State) (n : ℕ) (script : Script)
    (words : List (List (List ℕ))) → Before state words → Means state n lines (Ok script)
    → Ends script words lines
ends [] state n script words before means = no_lines state script words before means
ends (line ∷ lines) state n script words before (Ok form, says, more) =
    ends_more state line lines script words form says
    (ends lines (after state form) (n + 1) script (words ++ taken_words (line ∷ [])) (goes_on state line words form says before) more)
ends (line ∷ lines) state n script words before (Err kind, says, more) =
    absurd (let other : ◌≡◌ {A = Read} (Ok script) (Err (n, kind)) = more in cc)

-- **the lines of a text that spells a script are the script's**
pub spelled_is_text : (bytes : List ℕ) (script : Script) → Spells bytes script
    → IsTextOf bytes script
spelled_is_text bytes script spells =
    let all = ends (lines_of bytes) at_start 1 script [] (inl (refl, refl)) spells in
    let h = spelled_printable bytes script spells in
    let room = h.room in
    record {
      scheduled = all.held.scheduled;
      short = all.short;
      lines = all.held.lines;
      commands = All-weaker IsGrammatical (λ c. SpellsCommand (command_words c) c) (λ c good. (refl, good)) (commands_of script)
          (All-append IsGrammatical script.prologue (commands_in script.sessions) h.prologue (session_commands_good script.sessions h.sessions));
      few_commands = omega (arith, room, commands_counted script);
      names = session_names_good script.sessions h.sessions;
      distinct = λ i j d less within same. h.distinct i j less within
          (get_or_default (session_names script.sessions) i [] d (omega (arith, less, within)) ∙ same ∙ get_or_default (session_names script.sessions) j d [] within);
      few_sessions = h.few;
      some = all.held.some;
      known = all.held.known;
      places = all.held.places;
    }
