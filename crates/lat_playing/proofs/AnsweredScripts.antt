-- All sessions of a script whose lines answer their commands over one history.
use Rattle.std.proofs.Common.{◌≡◌, ℕ, zero, suc, ◌+◌, ◌<◌, ◌≤◌, List, [], ◌∷◌, ◌++◌, length, map, refl, sym, ap, ◌∙◌, subst, arith, inl, inr, length-append, append-nil}
use Rattle.std.specs.Prelude.{All, slice_index_or}
use Rattle.std.specs.FinMap.{empty}
use Rattle.std.proofs.lemmas.List.{get_or_append_left, get_or-append_right, get_or-map, length-map, append_cancel_left, nil_from_length}
use Rattle.std.proofs.lemmas.List.Elements.{All-nil, All-cons, All-from_get_or}
use Rattle.std.proofs.lemmas.Bool.{cases_lt, cases_eq}
use Rattle.alg_model.specs.Lattices as lattices
use Rattle.lat_core.specs.declared.replies.Entry.{Entry}
use Rattle.lat_core.specs.declared.outcomes.Line.{Line}
use Rattle.lat_core.specs.Histories.{IsLegal}
use Rattle.lat_language.specs.declared.scripts.Script.{Script}
use Rattle.lat_language.specs.declared.scripts.SessionScript.{SessionScript}
use Rattle.lat_session.specs.Outcomes.{Operations}
use Rattle.lat_playing.specs.Worlds.{SessionState, World, new_session, session_at, only_prologue, open_sessions, rest, Runs, IsWorld}
use Rattle.lat_playing.specs.Answered.{AreAnswered, commands_of, opening_front}
use Rattle.lat_playing.specs.Turns.{AreTurns}
use Rattle.lat_playing.specs.Theorems.{changes_of, own_entries_from, own_entries, AnsweredSessionsAreWorld}
use Rattle.lat_playing.specs.PrivateWorlds.{lines_at}
use Rattle.lat_playing.proofs.WorldEvents.{not_both, runs_both}
use Rattle.lat_playing.proofs.FinishedWorlds.{rest_left}
use Rattle.lat_playing.proofs.HeldChanges.{own_both, no_lines_past, prologue_holds}
use Rattle.lat_playing.proofs.AnsweredSessions.{AllStand, runs_stand, prologue_stands, new_at, runs_length, no_commands}
use Rattle.lat_playing.proofs.AnsweredWorlds.{own_here, own_there, none_to_come, Coming, AreComing, AllEnd, AllTurned, turns, end_from}

-- a number that has none of the entries
none_own : (n k : ℕ) (entries : List Entry) → own_entries_from n k entries ≡ []
    → All (λ (e : Entry). e.session ≡ n → ⊥) entries
none_own n k [] none = All-nil (λ (e : Entry). e.session ≡ n → ⊥)
none_own n k (x ∷ entries) none = elim (cases_eq x.session n) [
  | inl same ↦ absurd (not_both (own_entries_from n k (x ∷ entries)) (k, x.reply) (own_entries_from n (suc k) entries) none (own_here n k x entries same))
  | inr other ↦ All-cons (λ (e : Entry). e.session ≡ n → ⊥) x entries other (none_own n (suc k) entries (sym (own_there n k x entries other) ∙ none))
]

module _ (edition : lattices.Edition) (operations : Operations) (script : Script)
    (prologue : World) (history later : List Entry) (lines : ℕ → List Line)
    (played : Runs edition operations (rest (only_prologue script.prologue)) (only_prologue script.prologue) prologue)
    (whole : history ≡ prologue.history ++ later) (legal : IsLegal edition history)
    (first : lines 0 ≡ lines_at prologue 0)
    (answers : (n : ℕ) → AreAnswered edition operations n history empty
    (opening_front (length prologue.history) n) (commands_of script n) (lines n))
    (changes : (n : ℕ) → changes_of (lines n) ≡ own_entries n history) where
  one_session : length prologue.sessions ≡ 1
  one_session = runs_length edition operations (rest (only_prologue script.prologue)) (only_prologue script.prologue) prologue played

  both : (n : ℕ) → own_entries n history
      ≡ changes_of (lines_at prologue n) ++ own_entries_from n (length prologue.history) later
  both n = ap (own_entries n) whole ∙ own_both n 0 prologue.history later
      ∙ ap (λ k. own_entries n prologue.history ++ own_entries_from n k later) (omega arith)
      ∙ ap (λ cs. cs ++ own_entries_from n (length prologue.history) later) (sym (prologue_holds edition operations script.prologue prologue played n))

  -- the prologue makes no entry more
  first_changes : [] ≡ own_entries_from 0 (length prologue.history) later
  first_changes = append_cancel_left (changes_of (lines_at prologue 0)) [] (own_entries_from 0 (length prologue.history) later)
      (append-nil (changes_of (lines_at prologue 0)) ∙ ap changes_of (sym first) ∙ changes 0 ∙ both 0)

  -- and the sessions make theirs after it
  later_changes : (k : ℕ) → changes_of (lines (suc k))
      ≡ own_entries_from (suc k) (length prologue.history) later
  later_changes k = changes (suc k) ∙ both (suc k)
      ∙ ap (λ ls. changes_of ls ++ own_entries_from (suc k) (length prologue.history) later)
      (no_lines_past edition operations prologue.sessions (suc k) (omega (arith, one_session)))

  -- past the last session there are no lines
  no_lines : (n : ℕ) → length script.sessions + 1 ≤ n → lines n ≡ []
  no_lines n past = none_to_come edition operations history legal lines n empty (opening_front (length prologue.history) n) (lines n)
      (subst (λ cs. AreAnswered edition operations n history empty (opening_front (length prologue.history) n) cs (lines n)) (no_commands edition operations script n past) (answers n))

  opened : World
  opened = open_sessions script prologue

  opened_length : length opened.sessions ≡ length script.sessions + 1
  unfolding opened
  opened_length =
      let new = map (λ (s : SessionScript). new_session (length prologue.history) s.commands) script.sessions in
      omega (
        arith,
        length-append prologue.sessions new,
        one_session,
        length-map script.sessions (λ (s : SessionScript). new_session (length prologue.history) s.commands),
      )

  numbers : All (λ (e : Entry). e.session < length opened.sessions) later
  numbers k d l =
      let n = (slice_index_or later k d).session in
      elim (cases_lt n (length opened.sessions)) [
        | inl within ↦ within
        | inr past ↦
            let many : length script.sessions + 1 ≤ n = omega (arith, past, opened_length) in
            let none : own_entries_from n (length prologue.history) later ≡ [] = none_later n many in
            absurd (none_own n (length prologue.history) later none k d l refl)
      ]
    where
      none_later : (n : ℕ) → length script.sessions + 1 ≤ n
          → own_entries_from n (length prologue.history) later ≡ []
      none_later zero many = absurd (omega (arith, many))
      none_later (suc m) many = sym (later_changes m) ∙ ap changes_of (no_lines (suc m) many)

  each : (n : ℕ) → n < length opened.sessions
      → Coming edition operations history legal lines prologue.history later n
      (session_at opened.sessions n)
  unfolding opened AllStand
  each zero l =
      let new = map (λ (s : SessionScript). new_session (length prologue.history) s.commands) script.sessions in
      let s = session_at prologue.sessions 0 in
      let stand = runs_stand edition operations (commands_of script) (opening_front 0) (rest (only_prologue script.prologue)) (only_prologue script.prologue) prologue played (prologue_stands edition operations script) 0 (omega (arith, one_session)) in
      let none : s.left ≡ [] = nil_from_length s.left (rest_left edition operations (only_prologue script.prologue) prologue 0 played) in
      subst (λ u. Coming edition operations history legal lines prologue.history later 0 u)
      (sym (get_or_append_left prologue.sessions new (new_session 0 []) 0 (omega (arith, one_session))))
      (record {
        to_come = [];
        joined = append-nil s.lines ∙ sym first;
        within = stand.within;
        answers = subst (λ cs. AreAnswered edition operations 0 history s.variables s.front cs []) (sym none) tt;
        changes = first_changes;
      })
  each (suc k) l =
      let new = map (λ (s : SessionScript). new_session (length prologue.history) s.commands) script.sessions in
      let inside : k < length script.sessions = omega (
        arith,
        l,
        one_session,
        length-append prologue.sessions new,
        length-map script.sessions (λ (s : SessionScript). new_session (length prologue.history) s.commands),
      ) in
      let there : session_at (prologue.sessions ++ new) (suc k) ≡ session_at new k =
      get_or-append_right prologue.sessions new 1 (suc k) (new_session 0 []) one_session (omega arith)
      ∙ ap (λ i. session_at new i) (omega arith) in
      subst (λ u. Coming edition operations history legal lines prologue.history later (suc k) u)
      (sym (there ∙ new_at edition operations (length prologue.history) script.sessions k inside))
      (record {
        to_come = lines (suc k);
        joined = refl;
        within = omega arith;
        answers = answers (suc k);
        changes = later_changes k;
      })

  begins : AreComing edition operations history legal lines opened later
  unfolding opened
  begins = record { whole = whole; each = each }

  turned : AllTurned edition operations history legal lines opened later
  turned = turns edition operations history legal lines later opened begins numbers

  ended : AllEnd edition operations history legal lines 0
      (map (λ (s : SessionState). length s.left) turned.on.world.sessions) turned.on.world
  ended =
      let sessions = turned.on.world.sessions in
      let counts = map (λ (s : SessionState). length s.left) sessions in
      end_from edition operations history legal lines counts 0 turned.on.world turned.on.coming
      (omega (arith, length-map sessions (λ (s : SessionState). length s.left)))
      (λ j l. get_or-map (λ (s : SessionState). length s.left) sessions j (new_session 0 []) 0 (omega (arith, l, length-map sessions (λ (s : SessionState). length s.left)))
      ∙ ap (λ k. length (session_at sessions k).left) (omega arith))

  last : World
  last = ended.world

  last_length : length last.sessions ≡ length script.sessions + 1
  unfolding last
  last_length = ended.same ∙ turned.on.same ∙ opened_length

  none_left : All (λ (s : SessionState). s.left ≡ []) last.sessions
  unfolding last
  none_left = All-from_get_or (λ (s : SessionState). s.left ≡ []) ended.world.sessions (new_session 0 []) (λ i l. nil_from_length (session_at ended.world.sessions i).left (rest_left edition operations turned.on.world ended.world i ended.runs))

  last_lines : (n : ℕ) → lines_at last n ≡ lines n
  unfolding last
  last_lines n = elim (cases_lt n (length ended.world.sessions)) [
    | inl within ↦
        let s = session_at ended.world.sessions n in
        let C = ended.coming.each n within in
        let done : C.to_come ≡ [] = none_to_come edition operations history legal lines n s.variables s.front C.to_come
        (subst (λ cs. AreAnswered edition operations n history s.variables s.front cs C.to_come) (none_left n (new_session 0 []) within) C.answers) in
        sym (append-nil s.lines) ∙ ap (λ ls. s.lines ++ ls) (sym done) ∙ C.joined
    | inr past ↦ no_lines_past edition operations ended.world.sessions n past ∙ sym (no_lines n (omega (arith, past, last_length)))
  ]

  is_world : IsWorld edition operations script (turned.on.events ++ rest turned.on.world) last
  unfolding last opened
  is_world = record {
    prologue = prologue;
    played = played;
    runs = runs_both edition operations turned.on.events (rest turned.on.world) (open_sessions script prologue) turned.on.world ended.world turned.on.runs ended.runs;
  }

  last_history : last.history ≡ history
  unfolding last
  last_history = sym (ended.coming.whole ∙ append-nil ended.world.history)

  are_turns : AreTurns edition operations (map (λ (e : Entry). e.session) later)
      (open_sessions script prologue) turned.on.world
  unfolding opened
  are_turns = turned.are_turns

  last_runs : Runs edition operations (rest turned.on.world) turned.on.world last
  unfolding last
  last_runs = ended.runs

-- **sessions that are answered over one history are those of a world**
pub answered_world : AnsweredSessionsAreWorld
answered_world edition operations script prologue history later lines played whole legal first answers changes = (
  (turned edition operations script prologue history later lines played whole legal first answers changes).on.events
      ++ rest (turned edition operations script prologue history later lines played whole legal first answers changes).on.world,
  last edition operations script prologue history later lines played whole legal first answers changes,
  is_world edition operations script prologue history later lines played whole legal first answers changes,
  last_history edition operations script prologue history later lines played whole legal first answers changes,
  none_left edition operations script prologue history later lines played whole legal first answers changes,
  last_lines edition operations script prologue history later lines played whole legal first answers changes,
)

-- **in which they take turns in the order of the entries, and then play what is left**
pub answered_turns : (edition : lattices.Edition) (operations : Operations)
    (script : Script) (prologue : World) (history later : List Entry) (lines : ℕ → List Line)
    → Runs edition operations (rest (only_prologue script.prologue))
    (only_prologue script.prologue) prologue
    → history ≡ prologue.history ++ later → IsLegal edition history
    → lines 0 ≡ lines_at prologue 0
    → ((n : ℕ) → AreAnswered edition operations n history empty
    (opening_front (length prologue.history) n) (commands_of script n) (lines n))
    → ((n : ℕ) → changes_of (lines n) ≡ own_entries n history)
    → (v : World) × (w : World)
    × AreTurns edition operations (map (λ (e : Entry). e.session) later) (open_sessions script prologue) v
    × Runs edition operations (rest v) v w × (w.history ≡ history)
    × (length w.sessions ≡ length script.sessions + 1) × ((n : ℕ) → lines_at w n ≡ lines n)
answered_turns edition operations script prologue history later lines played whole legal first answers changes = (
  (turned edition operations script prologue history later lines played whole legal first answers changes).on.world,
  last edition operations script prologue history later lines played whole legal first answers changes,
  are_turns edition operations script prologue history later lines played whole legal first answers changes,
  last_runs edition operations script prologue history later lines played whole legal first answers changes,
  last_history edition operations script prologue history later lines played whole legal first answers changes,
  last_length edition operations script prologue history later lines played whole legal first answers changes,
  last_lines edition operations script prologue history later lines played whole legal first answers changes,
)
