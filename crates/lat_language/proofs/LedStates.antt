-- From one state to another by lines of some words, whatever lines these are.
use Rattle.std.proofs.Common.{◌≡◌, ℕ, ◌+◌, ◌<◌, ◌≤◌, true, Ok, List, [], ◌∷◌, ◌++◌, length, map, sym, refl, ap, ap₂, ◌∙◌, subst, arith, append_assoc, length-append}
use Rattle.std.specs.Prelude.{All, Contains, codes, flat_map}
use Rattle.std.proofs.lemmas.List.{append-nil, map-append, get_or_append_left, get_or_default}
use Rattle.std.proofs.lemmas.List.Elements.{All-head, All-tail}
use Rattle.std.proofs.lemmas.List.Sums.{sum_by-append, sum_by-cons}
use Rattle.std.proofs.Math.Seq.{get_or-append_seam}
use Rattle.lat_core.specs.Names.{IsDeclaredName}
use Rattle.lat_language.specs.declared.commands.Command.{Command}
use Rattle.lat_language.specs.declared.scripts.TheConstants.{MAX_LINE, MAX_COMMANDS, MAX_SESSIONS}
use Rattle.lat_language.specs.declared.scripts.Script.{Script}
use Rattle.lat_language.specs.declared.scripts.SessionScript.{SessionScript}
use Rattle.lat_language.specs.Commands.{command_words}
use Rattle.lat_language.specs.Grammar.{words_of, header_words, State, at_start, script_of, session_names, session_commands, command_count, Form, Header, OfCommand, OfSession, OfSchedule, new_session, after, Says, Means}
use Rattle.lat_language.specs.CanonicalText.{session_lines}
use Rattle.lat_language.proofs.LineMeanings.{says_header, says_command, says_session, says_schedule}
use Rattle.lat_language.proofs.SessionPlaces.{last_of_some}
use Rattle.lat_language.proofs.SpelledScripts.{IsGrammatical, IsGrammaticalSession, AreDistinct, IsPrintable, Read, by_begun, size_of, prologue_same, count_more}

-- each line of these words that isn't too long says the form
abbrev pub IsSaid : State → List (List ℕ) → Form → Type 0
IsSaid state words form = (line : List ℕ) → length line ≤ MAX_LINE → words_of line ≡ words
    → Says state line (Ok form)

-- lines of these words have forms, which lead without a fault from one state to the other
abbrev pub Leads : State → List (List (List ℕ)) → State → Type 0
Leads state [] final = state ≡ final
Leads state (words ∷ more) final =
    (form : Form) × IsSaid state words form × Leads (after state form) more final

pub leads_append : (xs ys : List (List (List ℕ))) (a b c : State) → Leads a xs b → Leads b ys c
    → Leads a (xs ++ ys) c
leads_append [] ys a b c e more = subst (λ (s : State). Leads s ys c) (sym e) more
leads_append (x ∷ xs) ys a b c l more = (l.0, l.1, leads_append xs ys (after a l.0) b c l.2 more)

-- where no line is left, the script is that of the state
pub led_ends : (state final : State) (n : ℕ) → final.begun ≡ true → state ≡ final
    → Means state n [] (Ok (script_of final))
led_ends state final n begun e =
    subst (λ (s : State). ◌≡◌ {A = Read} (Ok (script_of final)) (by_begun s s.begun)) (sym e)
    (sym (ap (by_begun final) begun))

-- after the header
abbrev pub begun_with : List Command → List SessionScript → List ℕ → State
begun_with prologue sessions schedule =
    record { begun = true; prologue = prologue; sessions = sessions; schedule = schedule }

-- ---- what a line of each form says
header_said : IsSaid at_start header_words Header
header_said line fits words = says_header at_start line fits refl words

module _ (state : State) (begun : state.begun ≡ true) where
  module _ (none : state.schedule ≡ []) where
    early : 0 < length state.schedule → ⊥
    early late = omega (arith, late, ap length none)

    command_said : (c : Command) → IsGrammatical c → command_count state < MAX_COMMANDS
        → IsSaid state (command_words c) (OfCommand c)
    command_said c good room line fits words = says_command state line fits begun c (words, good) early room

    session_said : (name : List ℕ) → IsDeclaredName name → length state.sessions < MAX_SESSIONS
        → ¬ (Contains (session_names state.sessions) name)
        → IsSaid state (codes "session" ∷ name ∷ []) (OfSession name)
    session_said name declared room new line fits words =
        says_session state line fits begun name (words, declared) early room new

  pub schedule_said : (names : List (List ℕ)) → 0 < length names → All IsDeclaredName names
      → All (Contains (session_names state.sessions)) names
      → IsSaid state (codes "schedule" ∷ names) (OfSchedule names)
  schedule_said names some declared known line fits words =
      says_schedule state line fits begun names (words, some, declared) known

-- ---- commands
add_all : State → List Command → State
add_all state [] = state
add_all state (c ∷ cs) = add_all (after state (OfCommand c)) cs

commands_lead : (cs : List Command) (state : State) → state.begun ≡ true → state.schedule ≡ []
    → All IsGrammatical cs → command_count state + length cs ≤ MAX_COMMANDS
    → Leads state (map command_words cs) (add_all state cs)
unfolding add_all
commands_lead [] state begun none all room = refl
commands_lead (c ∷ cs) state begun none all room = (
  OfCommand c,
  command_said state begun none c (All-head IsGrammatical c cs all) (omega arith),
  commands_lead cs (after state (OfCommand c)) begun none (All-tail IsGrammatical c cs all)
      (omega (arith, count_more state.prologue state.sessions c, room)),
)

prologue_all : (cs prologue : List Command)
    → add_all (begun_with prologue [] []) cs ≡ begun_with (prologue ++ cs) [] []
unfolding add_all
prologue_all [] prologue = ap (λ p. begun_with p [] []) (sym (append-nil prologue))
prologue_all (c ∷ cs) prologue =
    prologue_all cs (prologue ++ c ∷ []) ∙ ap (λ p. begun_with p [] []) (append_assoc prologue (c ∷ []) cs)

-- a session of this name with these commands
abbrev session_of : List ℕ → List Command → SessionScript
session_of name commands = record { name = name; commands = commands }

session_all : (cs prologue : List Command) (front : List SessionScript) (name : List ℕ)
    (done : List Command)
    → add_all (begun_with prologue (front ++ session_of name done ∷ []) []) cs
    ≡ begun_with prologue (front ++ session_of name (done ++ cs) ∷ []) []
unfolding add_all
session_all [] prologue front name done =
    ap (λ cs. begun_with prologue (front ++ session_of name cs ∷ []) []) (sym (append-nil done))
session_all (c ∷ cs) prologue front name done =
    let sessions : List SessionScript = front ++ session_of name done ∷ [] in
    ap₂ (λ p ss. add_all (begun_with p ss []) cs)
    (prologue_same sessions prologue c (omega (arith, length-append front (session_of name done ∷ []))))
    (last_of_some front (session_of name done) c)
    ∙ session_all cs prologue front name (done ++ c ∷ [])
    ∙ ap (λ cs. begun_with prologue (front ++ session_of name cs ∷ []) []) (append_assoc done (c ∷ []) cs)

-- ---- sessions
name_new : (before : List (List ℕ)) (name : List ℕ) (more : List (List ℕ))
    → AreDistinct (before ++ name ∷ more) → ¬ (Contains before name)
name_new before name more distinct there =
    distinct there.0 (length before) there.1 (omega (arith, length-append before (name ∷ more)))
    (get_or_append_left before (name ∷ more) [] there.0 there.1 ∙ get_or_default before there.0 [] name there.1
    ∙ there.2 ∙ sym (get_or-append_seam before name more []))

sessions_lead : (rest done : List SessionScript) (prologue : List Command)
    → All IsGrammaticalSession rest → AreDistinct (session_names (done ++ rest))
    → length (done ++ rest) ≤ MAX_SESSIONS
    → length prologue + session_commands (done ++ rest) ≤ MAX_COMMANDS
    → Leads (begun_with prologue done []) (flat_map session_lines rest)
    (begun_with prologue (done ++ rest) [])
sessions_lead [] done prologue all distinct few room =
    ap (λ ss. begun_with prologue ss []) (sym (append-nil done))
sessions_lead (s ∷ rest) done prologue all distinct few room =
    let good = All-head IsGrammaticalSession s rest all in
    let named = new_session s.name in
    let more : List (List (List ℕ)) = flat_map session_lines rest in
    let e : (done ++ s ∷ []) ++ rest ≡ done ++ s ∷ rest = append_assoc done (s ∷ []) rest in
    let names : session_names (done ++ s ∷ rest) ≡ session_names done ++ s.name ∷ session_names rest = map-append (λ (s : SessionScript). s.name) done (s ∷ rest) in
    let whole : session_commands (done ++ s ∷ rest) ≡ session_commands done + (length s.commands + session_commands rest) =
    sum_by-append size_of done (s ∷ rest) ∙ ap (λ k. session_commands done + k) (sum_by-cons size_of s rest) in
    let begun : session_commands (done ++ named ∷ []) ≡ session_commands done =
    sum_by-append size_of done (named ∷ []) ∙ omega (arith, sum_by-cons size_of named []) in
    let first : Leads (begun_with prologue (done ++ named ∷ []) []) (map command_words s.commands) (begun_with prologue (done ++ s ∷ []) []) =
    subst (Leads (begun_with prologue (done ++ named ∷ []) []) (map command_words s.commands))
    (session_all s.commands prologue done s.name [])
    (commands_lead s.commands (begun_with prologue (done ++ named ∷ []) []) refl refl good.commands (omega (arith, begun, whole, room))) in
    let last : Leads (begun_with prologue (done ++ s ∷ []) []) more (begun_with prologue (done ++ s ∷ rest) []) =
    subst (λ ss. Leads (begun_with prologue (done ++ s ∷ []) []) more (begun_with prologue ss [])) e
    (sessions_lead rest (done ++ s ∷ []) prologue (All-tail IsGrammaticalSession s rest all)
    (subst (λ ss. AreDistinct (session_names ss)) (sym e) distinct)
    (subst (λ (ss : List SessionScript). length ss ≤ MAX_SESSIONS) (sym e) few)
    (subst (λ ss. length prologue + session_commands ss ≤ MAX_COMMANDS) (sym e) room)) in (
      OfSession s.name,
      session_said (begun_with prologue done []) refl refl s.name good.name (omega (arith, length-append done (s ∷ rest), few))
          (name_new (session_names done) s.name (session_names rest) (subst AreDistinct names distinct)),
      leads_append (map command_words s.commands) more _ (begun_with prologue (done ++ s ∷ []) []) _ first last,
    )

-- the header, commands, sessions and a schedule
pub whole_lead : (script : Script) → IsPrintable script → (lines : List (List (List ℕ)))
    → Leads (begun_with script.prologue script.sessions []) lines
    (begun_with script.prologue script.sessions script.schedule)
    → Leads at_start
    (header_words ∷ (map command_words script.prologue ++ (flat_map session_lines script.sessions ++ lines)))
    (begun_with script.prologue script.sessions script.schedule)
whole_lead script h lines scheduled =
    let room = h.room in
    let prologue : Leads (begun_with [] [] []) (map command_words script.prologue) (begun_with script.prologue [] []) =
    subst (Leads (begun_with [] [] []) (map command_words script.prologue)) (prologue_all script.prologue [])
    (commands_lead script.prologue (begun_with [] [] []) refl refl h.prologue (omega (arith, room))) in (
      Header,
      header_said,
      leads_append (map command_words script.prologue) (flat_map session_lines script.sessions ++ lines) _ (begun_with script.prologue [] []) _ prologue
          (leads_append (flat_map session_lines script.sessions) lines _ (begun_with script.prologue script.sessions []) _
          (sessions_lead script.sessions [] script.prologue h.sessions h.distinct h.few h.room) scheduled),
    )
