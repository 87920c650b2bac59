-- What holds of each script that bytes spell.
use Rattle.std.proofs.Common.{◌≡◌, ℕ, ◌+◌, ◌<◌, ◌≤◌, Bool, cond, eqb, Result, Ok, Err, List, [], ◌∷◌, ◌++◌, length, get_or, map, sym, ap, ◌∙◌, subst, inl, inr, arith, lit≤}
use Rattle.std.specs.Prelude.{◌≢◌, All, Contains, MatchResult}
use Rattle.std.proofs.lemmas.Bool.{cases_Bool, cases_lt, cond-false, ne_eqb}
use Rattle.std.proofs.lemmas.List.{length-map, length_push, map-append, get_or_append_left, get_or_default}
use Rattle.std.proofs.lemmas.List.Elements.{All-nil, All-cons, All-head, All-tail, All-push, All-append, All-weaker, All-map}
use Rattle.std.proofs.lemmas.List.Sums.{sum_by-append, sum_by-cons}
use Rattle.std.proofs.Math.Seq.{get_or-append_seam}
use Rattle.lat_core.specs.Names.{IsDeclaredName}
use Rattle.lat_language.specs.declared.commands.Command.{Command}
use Rattle.lat_language.specs.declared.scripts.TheConstants.{MAX_COMMANDS, MAX_SESSIONS}
use Rattle.lat_language.specs.declared.scripts.Script.{Script}
use Rattle.lat_language.specs.declared.scripts.SessionScript.{SessionScript}
use Rattle.lat_language.specs.declared.script_faults.TheConstants.{NO_HEADER}
use Rattle.lat_language.specs.Commands.{IsWord, form_of}
use Rattle.lat_language.specs.Grammar.{lines_of, State, at_start, script_of, session_names, session_commands, command_count, place_of, Form, PassedOver, Header, OfCommand, OfSession, OfSchedule, new_session, add_to_prologue, add_to_last, after, Says, Means, Spells}
use Rattle.lat_language.proofs.SessionPlaces.{name_missing, last_names, last_length, decide_all_there}

-- a command whose operands are those of the grammar
abbrev pub IsGrammatical : Command → Type 0
IsGrammatical c = All IsWord (form_of c)

-- a session with a declared name and such commands
pub record IsGrammaticalSession (s : SessionScript) : Type 0 where
  pub name : IsDeclaredName s.name
  pub commands : All IsGrammatical s.commands

-- no two names are the same
abbrev pub AreDistinct : List (List ℕ) → Type 0
AreDistinct names = (i j : ℕ) → i < j → j < length names → get_or names i [] ≢ get_or names j []

-- commands and names of the grammar, distinct names, and no more than there may be
pub record IsPrintable (script : Script) : Type 0 where
  pub prologue : All IsGrammatical script.prologue
  pub sessions : All IsGrammaticalSession script.sessions
  pub distinct : AreDistinct (session_names script.sessions)
  pub few : length script.sessions ≤ MAX_SESSIONS
  pub room : length script.prologue + session_commands script.sessions ≤ MAX_COMMANDS
  pub places : All (λ place. place < length script.sessions) script.schedule

-- ---- one command more
last_grammatical : (sessions : List SessionScript) (c : Command) → IsGrammatical c
    → All IsGrammaticalSession sessions → All IsGrammaticalSession (add_to_last sessions c)
last_grammatical [] c good all = all
last_grammatical (s ∷ []) c good all =
    let last = All-head IsGrammaticalSession s [] all in
    All-cons IsGrammaticalSession (record { name = s.name; commands = s.commands ++ c ∷ [] }) []
    (record { name = last.name; commands = All-push IsGrammatical s.commands c last.commands good })
    (All-nil IsGrammaticalSession)
last_grammatical (s ∷ t ∷ more) c good all =
    All-cons IsGrammaticalSession s (add_to_last (t ∷ more) c) (All-head IsGrammaticalSession s (t ∷ more) all)
    (last_grammatical (t ∷ more) c good (All-tail IsGrammaticalSession s (t ∷ more) all))

-- how many commands a session has
abbrev pub size_of : SessionScript → ℕ
size_of s = length s.commands

last_commands : (s : SessionScript) (more : List SessionScript) (c : Command)
    → session_commands (add_to_last (s ∷ more) c) ≡ session_commands (s ∷ more) + 1
last_commands s [] c = omega (arith, sum_by-cons size_of (record { name = s.name; commands = s.commands ++ c ∷ [] }) [], sum_by-cons size_of s [], length_push s.commands c)
last_commands s (t ∷ more) c = omega (arith, sum_by-cons size_of s (add_to_last (t ∷ more) c), sum_by-cons size_of s (t ∷ more), last_commands t more c)

-- where there is a session, the prologue keeps its commands
pub prologue_same : (sessions : List SessionScript) (prologue : List Command) (c : Command)
    → 0 < length sessions → add_to_prologue sessions prologue c ≡ prologue
prologue_same sessions prologue c some =
    cond-false (eqb (length sessions) 0) (prologue ++ c ∷ []) prologue (ne_eqb (length sessions) 0 (λ e. omega arith))

-- there is one command more
pub count_more : (prologue : List Command) (sessions : List SessionScript) (c : Command)
    → length (add_to_prologue sessions prologue c) + session_commands (add_to_last sessions c)
    ≡ length prologue + session_commands sessions + 1
count_more prologue [] c = omega (arith, length_push prologue c)
count_more prologue (s ∷ more) c = omega (arith, ap (λ (p : List Command). length p) (prologue_same (s ∷ more) prologue c (omega arith)), last_commands s more c)

command_kept : (prologue : List Command) (sessions : List SessionScript) (schedule : List ℕ)
    (c : Command) → IsGrammatical c → length prologue + session_commands sessions < MAX_COMMANDS
    → IsPrintable (record { prologue = prologue; sessions = sessions; schedule = schedule })
    → IsPrintable (record {
      prologue = add_to_prologue sessions prologue c;
      sessions = add_to_last sessions c;
      schedule = schedule;
    })
command_kept prologue [] schedule c good room h = record {
  prologue = All-push IsGrammatical prologue c h.prologue good;
  sessions = h.sessions;
  distinct = h.distinct;
  few = h.few;
  room = omega (arith, count_more prologue [] c, room);
  places = h.places;
}
command_kept prologue (s ∷ more) schedule c good room h =
    let same = prologue_same (s ∷ more) prologue c (omega arith) in record {
      prologue = subst (All IsGrammatical) (sym same) h.prologue;
      sessions = last_grammatical (s ∷ more) c good h.sessions;
      distinct = subst AreDistinct (sym (last_names (s ∷ more) c)) h.distinct;
      few = omega (arith, last_length (s ∷ more) c, h.few);
      room = omega (arith, count_more prologue (s ∷ more) c, room);
      places = subst (λ n. All (λ place. place < n) schedule) (sym (last_length (s ∷ more) c)) h.places;
    }

-- ---- one session more
distinct_push : (names : List (List ℕ)) (name : List ℕ) → AreDistinct names
    → ¬ (Contains names name) → AreDistinct (names ++ name ∷ [])
distinct_push names name distinct new i j less within same = elim (cases_lt j (length names)) [
  | inl l ↦ distinct i j less l (sym (get_or_append_left names (name ∷ []) [] i (omega arith)) ∙ same ∙ get_or_append_left names (name ∷ []) [] j l)
  | inr le ↦
      let last : j ≡ length names = omega (arith, length_push names name) in
      let before : i < length names = omega arith in
      new (i, before, get_or_default names i name [] before ∙ sym (get_or_append_left names (name ∷ []) [] i before) ∙ same ∙ ap (λ k. get_or (names ++ name ∷ []) k []) last ∙ get_or-append_seam names name [] [])
]

session_kept : (script : Script) (name : List ℕ) → IsDeclaredName name
    → ¬ (Contains (session_names script.sessions) name) → length script.sessions < MAX_SESSIONS
    → IsPrintable script
    → IsPrintable (record script { sessions = script.sessions ++ new_session name ∷ [] })
session_kept script name declared new room h =
    let longer = length_push script.sessions (new_session name) in record {
      prologue = h.prologue;
      sessions = All-push IsGrammaticalSession script.sessions (new_session name) h.sessions (record { name = declared; commands = All-nil IsGrammatical });
      distinct = subst AreDistinct (sym (map-append (λ (s : SessionScript). s.name) script.sessions (new_session name ∷ []))) (distinct_push (session_names script.sessions) name h.distinct new);
      few = omega (arith, longer, room);
      room = omega (arith, h.room, sum_by-append size_of script.sessions (new_session name ∷ []), sum_by-cons size_of (new_session name) []);
      places = All-weaker (λ place. place < length script.sessions) (λ place. place < length (script.sessions ++ new_session name ∷ [])) (λ place l. omega arith) script.schedule h.places;
    }

-- ---- more of a schedule
pub place_within : (names : List (List ℕ)) (name : List ℕ) → Contains names name
    → place_of names name < length names
place_within names name there = elim (cases_lt (place_of names name) (length names)) [
  | inl l ↦ l
  | inr end ↦ absurd (name_missing names name end there)
]

schedule_kept : (script : Script) (names : List (List ℕ))
    → All (Contains (session_names script.sessions)) names → IsPrintable script
    → IsPrintable (record script {
      schedule = script.schedule ++ map (place_of (session_names script.sessions)) names;
    })
schedule_kept script names known h =
    let there = session_names script.sessions in
    let count : length there ≡ length script.sessions = length-map script.sessions (λ (s : SessionScript). s.name) in record {
      prologue = h.prologue;
      sessions = h.sessions;
      distinct = h.distinct;
      few = h.few;
      room = h.room;
      places = All-append (λ place. place < length script.sessions) script.schedule (map (place_of there) names) h.places
          (All-map (λ place. place < length script.sessions) (place_of there) names
          (All-weaker (Contains there) (λ name. place_of there name < length script.sessions) (λ name here. subst (λ n. place_of there name < n) count (place_within there name here)) names known));
    }

-- ---- the lines of a text
module _ (state : State) (line : List ℕ) (h : IsPrintable (script_of state)) where
  kept_after : (form : Form) → Says state line (Ok form)
      → IsPrintable (script_of (after state form))
  unfolding Says
  kept_after PassedOver says = h
  kept_after Header says = h
  kept_after (OfCommand c) says =
      command_kept state.prologue state.sessions state.schedule c says.0.1
      (elim (cases_lt (command_count state) MAX_COMMANDS) [
        | inl l ↦ l
        | inr full ↦ absurd (says.1.1.1.1.1.1.1.0 (full, (c, says.0)))
      ]) h
  kept_after (OfSession name) says =
      session_kept (script_of state) name says.0.1 (λ there. says.1.1.1.1.1.1.0 (name, says.0, there))
      (elim (cases_lt (length state.sessions) MAX_SESSIONS) [
        | inl l ↦ l
        | inr full ↦ absurd (says.1.1.1.1.1.0 (full, (name, says.0)))
      ]) h
  kept_after (OfSchedule names) says =
      schedule_kept (script_of state) names
      (elim (decide_all_there (session_names state.sessions) names) [
        | inl known ↦ known
        | inr unknown ↦ absurd (says.1.1.1.1.1.1.1.1.0 (names, says.0, unknown))
      ]) h

-- what lines say
abbrev pub Read : Type 0
Read = Result Script (ℕ × ℕ)

abbrev pub by_begun : State → Bool → Read
by_begun state b = cond b (Ok (script_of state)) (Err (1, NO_HEADER))

-- the script of lines that end
ended : (state : State) (s : Script) → IsPrintable (script_of state)
    → ◌≡◌ {A = Read} (Ok s) (cond state.begun (Ok (script_of state)) (Err (1, NO_HEADER)))
    → IsPrintable s
ended state s h e = elim (cases_Bool state.begun) [
  | inl t ↦
      let is : ◌≡◌ {A = Read} (Ok s) (Ok (script_of state)) = e ∙ ap (λ b. by_begun state b) t in
      let same : script_of state ≡ s = cc in
      subst IsPrintable same h
  | inr f ↦ absurd (let is : ◌≡◌ {A = Read} (Ok s) (Err (1, NO_HEADER)) = e ∙ ap (λ b. by_begun state b) f in cc)
]

next_line : (state : State) (n : ℕ) (line : List ℕ) (lines : List (List ℕ)) (s : Script)
    (said : Result Form ℕ)
    → ((form : Form) → Says state line (Ok form) → Means (after state form) (n + 1) lines (Ok s)
    → IsPrintable s)
    → Says state line said
    → MatchResult said (λ form. Means (after state form) (n + 1) lines (Ok s))
    (λ kind. ◌≡◌ {A = Read} (Ok s) (Err (n, kind)))
    → IsPrintable s
next_line state n line lines s (Ok form) rest says means = rest form says means
next_line state n line lines s (Err kind) rest says e = absurd (cc)

kept : (lines : List (List ℕ)) (state : State) (n : ℕ) (s : Script) → IsPrintable (script_of state)
    → Means state n lines (Ok s) → IsPrintable s
kept [] state n s h means = ended state s h means
kept (line ∷ lines) state n s h means =
    next_line state n line lines s means.0
    (λ form says more. kept lines (after state form) (n + 1) s (kept_after state line h form says) more) means.1 means.2

at_start_printable : IsPrintable (script_of at_start)
at_start_printable = record {
  prologue = All-nil IsGrammatical;
  sessions = All-nil IsGrammaticalSession;
  distinct = λ i j less within same. omega arith;
  few = lit≤ tt;
  room = lit≤ tt;
  places = All-nil (λ place. place < 0);
}

-- a script that bytes spell
pub spelled_printable : (bytes : List ℕ) (s : Script) → Spells bytes s → IsPrintable s
spelled_printable bytes s spells = kept (lines_of bytes) at_start 1 s at_start_printable spells
