-- A transcript of sessions in some order is the one that is read off its places.
use Rattle.std.proofs.Common.{◌≡◌, ℕ, suc, List, [], ◌∷◌, ◌++◌, length, map, drop, replicate, refl, sym, ap, ap₂, ◌∙◌, subst, arith, inl, inr, append-nil, append_assoc, get_or-set_other}
use Rattle.std.proofs.lemmas.List.{get_or_append_left, nil_from_length}
use Rattle.std.proofs.lemmas.List.Elements.{All-from_get_or}
use Rattle.std.proofs.lemmas.Bool.{cases_eq}
use Rattle.alg_model.specs.Lattices as lattices
use Rattle.alg_model.specs.Lattices.{Lattice}
use Rattle.lat_core.specs.declared.replies.Entry.{Entry}
use Rattle.lat_core.specs.declared.outcomes.Line.{Line}
use Rattle.lat_core.specs.SharedRows.{map_count}
use Rattle.lat_core.specs.Histories.{IsAfter}
use Rattle.lat_language.specs.declared.commands.Command.{Command}
use Rattle.lat_language.specs.declared.scripts.Script.{Script}
use Rattle.lat_language.specs.declared.scripts.SessionScript.{SessionScript}
use Rattle.lat_language.specs.Texts.{session_text, summary_text}
use Rattle.lat_session.specs.Variables.{Variables}
use Rattle.lat_session.specs.Outcomes.{Operations}
use Rattle.lat_playing.specs.Worlds.{SessionState, World, new_session, session_at, only_prologue, open_sessions, rest, HasLine, Happens, Runs, IsWorld}
use Rattle.lat_playing.specs.Worlds.HasLine.{change, read}
use Rattle.lat_playing.specs.Worlds.Happens.{nothing, plays}
use Rattle.lat_playing.specs.Transcripts.{lines_text, blocks_text, IsText}
use Rattle.lat_playing.specs.Turns.{order_from, IsTurn, AreTurns}
use Rattle.lat_playing.specs.Theorems.{FairIsByPlaces, PlacesAreFair}
use Rattle.lat_playing.specs.PrivateWorlds.{lines_at}
use Rattle.lat_playing.proofs.WorldEvents.{not_both, runs_both}
use Rattle.lat_playing.proofs.FinishedWorlds.{rest_left}
use Rattle.lat_playing.proofs.HeldChanges.{world_holds}
use Rattle.lat_playing.proofs.AnsweredSessions.{runs_length, world_length, world_answered}
use Rattle.lat_playing.proofs.AnsweredScripts.{answered_turns}

-- ---- texts
same_blocks : (scripts : List SessionScript) (xs ys : List SessionState) → length xs ≡ length ys
    → ((n : ℕ) → (session_at xs n).lines ≡ (session_at ys n).lines)
    → blocks_text scripts xs ≡ blocks_text scripts ys
same_blocks [] xs ys e same = refl
same_blocks (script ∷ scripts) [] [] e same = refl
same_blocks (script ∷ scripts) [] (y ∷ ys) e same = absurd (omega (arith, e))
same_blocks (script ∷ scripts) (x ∷ xs) [] e same = absurd (omega (arith, e))
same_blocks (script ∷ scripts) (x ∷ xs) (y ∷ ys) e same =
    ap₂ (λ ls bs. session_text script.name ++ lines_text ls ++ bs) (same 0)
    (same_blocks scripts xs ys (omega (arith, e)) (λ n. same (suc n)))

later_blocks : (scripts : List SessionScript) (xs ys : List SessionState) → length xs ≡ length ys
    → ((n : ℕ) → (session_at xs n).lines ≡ (session_at ys n).lines)
    → blocks_text scripts (drop 1 xs) ≡ blocks_text scripts (drop 1 ys)
later_blocks scripts [] [] e same = refl
later_blocks scripts [] (y ∷ ys) e same = absurd (omega (arith, e))
later_blocks scripts (x ∷ xs) [] e same = absurd (omega (arith, e))
later_blocks scripts (x ∷ xs) (y ∷ ys) e same =
    same_blocks scripts xs ys (omega (arith, e)) (λ n. same (suc n))

-- one history and the same lines make one text
same_text : (edition : lattices.Edition) (script : Script) (w v : World) (text : List ℕ)
    → w.history ≡ v.history → length w.sessions ≡ length v.sessions
    → ((n : ℕ) → lines_at w n ≡ lines_at v n) → IsText edition script w text
    → IsText edition script v text
same_text edition script w v text e count same a =
    let L : Lattice = a.lattice in
    let blocks = later_blocks script.sessions w.sessions v.sessions count same in
    record {
      lattice = L;
      after = subst (λ es. IsAfter edition es L) e a.after;
      is = a.is
          ∙ ap₂ (λ ls bs. (lines_text ls ++ bs) ++ summary_text (length L.rows) (map_count L) (length w.history)) (same 0) blocks
          ∙ ap (λ es. (lines_text (lines_at v 0) ++ blocks_text script.sessions (drop 1 v.sessions)) ++ summary_text (length L.rows) (map_count L) (length es)) e;
    }

-- ---- lists
drop_first : (xs ys : List Entry) → drop (length xs) (xs ++ ys) ≡ ys
drop_first [] ys = refl
drop_first (x ∷ xs) ys = drop_first xs ys

module _ (edition : lattices.Edition) (operations : Operations) where
  -- ---- events
  line_grows : {n : ℕ} {history h : List Entry} {variables v : Variables} {front f : ℕ}
      {command : Command} {l : Line}
      → HasLine edition operations n history variables front command h v f l
      → (later : List Entry) × (h ≡ history ++ later)
  line_grows {n} (change {request} {reply} M requested after step) =
      (record { session = n; request = request; reply = reply } ∷ [], refl)
  line_grows {history = history} (read none seen has) = ([], sym (append-nil history))

  happens_grow : (n : ℕ) (w v : World) → Happens edition operations n w v
      → (later : List Entry) × (v.history ≡ w.history ++ later)
  happens_grow n w v (nothing none) = ([], sym (append-nil w.history))
  happens_grow n w v (plays inside P) = line_grows P.has_line

  -- a history begins with the one before
  runs_grow : (events : List ℕ) (w v : World) → Runs edition operations events w v
      → (later : List Entry) × (v.history ≡ w.history ++ later)
  runs_grow [] w v e = ([], ap (λ (u : World). u.history) e ∙ sym (append-nil w.history))
  runs_grow (n ∷ events) w v (x, h, r) =
      let (first, e) = happens_grow n w x h in
      let (later, d) = runs_grow events x v r in
      (first ++ later, d ∙ ap (λ es. es ++ later) e ∙ append_assoc w.history first later)

  -- a session with no command left stays as it is
  happens_leave : (n k : ℕ) (w v : World) → (session_at w.sessions k).left ≡ []
      → Happens edition operations n w v → session_at v.sessions k ≡ session_at w.sessions k
  happens_leave n k w v done (nothing none) = refl
  happens_leave n k w v done (plays {s' = t} inside P) = elim (cases_eq k n) [
    | inl same ↦ absurd (not_both (session_at w.sessions n).left P.command t.left (subst (λ j. (session_at w.sessions j).left ≡ []) same done) P.next)
    | inr other ↦ get_or-set_other w.sessions n k t (new_session 0 []) other
  ]

  runs_leave : (events : List ℕ) (k : ℕ) (w v : World) → (session_at w.sessions k).left ≡ []
      → Runs edition operations events w v → session_at v.sessions k ≡ session_at w.sessions k
  runs_leave [] k w v done e = ap (λ (u : World). session_at u.sessions k) e
  runs_leave (n ∷ events) k w v done (x, h, r) =
      let same = happens_leave n k w x done h in
      runs_leave events k x v (ap (λ (s : SessionState). s.left) same ∙ done) r ∙ same

  -- the prologue has its lines from the beginning
  first_lines : (script : Script) (events : List ℕ) (w : World)
      → (a : IsWorld edition operations script events w) → lines_at w 0 ≡ lines_at a.prologue 0
  first_lines script events w a =
      let p : World = a.prologue in
      let start : World = only_prologue script.prologue in
      let new = map (λ (s : SessionScript). new_session (length p.history) s.commands) script.sessions in
      let one : length p.sessions ≡ 1 = runs_length edition operations (rest start) start p a.played in
      let there : session_at (p.sessions ++ new) 0 ≡ session_at p.sessions 0 = get_or_append_left p.sessions new (new_session 0 []) 0 (omega (arith, one)) in
      let none : (session_at p.sessions 0).left ≡ [] = nil_from_length (session_at p.sessions 0).left (rest_left edition operations start p 0 a.played) in
      ap (λ (s : SessionState). s.lines)
      (runs_leave events 0 (open_sessions script p) w (ap (λ (s : SessionState). s.left) there ∙ none) a.runs ∙ there)

  -- ---- turns are events
  turn_events : (n : ℕ) (w v : World) (T : IsTurn edition operations n w v)
      → Runs edition operations (replicate T.reads n ++ n ∷ []) w v
  turn_events n w v T =
      runs_both edition operations (replicate T.reads n) (n ∷ []) w T.before v T.quiet (v, T.change, refl)

  turns_events : (order : List ℕ) (w v : World) → AreTurns edition operations order w v
      → (events : List ℕ) × Runs edition operations events w v
  turns_events [] w v e = ([], e)
  turns_events (n ∷ order) w v (x, T, more) =
      let (events, r) = turns_events order x v more in (
        (replicate T.reads n ++ n ∷ []) ++ events,
        runs_both edition operations (replicate T.reads n ++ n ∷ []) events w x v (turn_events n w x T) r,
      )

-- **the transcript of sessions in some order is read off its places**
pub fair_by_places : FairIsByPlaces
fair_by_places edition operations script text a =
    let is = a.is_world in
    let p : World = is.prologue in
    let w : World = a.world in
    let (later, whole) = runs_grow edition operations a.events (open_sessions script p) w is.runs in
    let (turned, v, turns, runs, same, count, lines) = answered_turns edition operations script p w.history later (lines_at w) is.played whole
    (a.is_text.lattice, a.is_text.after)
    (first_lines edition operations script a.events w is)
    (world_answered edition operations script a.events w is a.none_left)
    (world_holds edition operations script a.events w is) in
    let order : map (λ (e : Entry). e.session) later ≡ order_from (length p.history) v.history =
    ap (λ es. map (λ (e : Entry). e.session) es) (sym (drop_first p.history later))
    ∙ ap (λ es. order_from (length p.history) es) (sym whole ∙ sym same) in
    record {
      prologue = p;
      played = is.played;
      turned = turned;
      world = v;
      turns = subst (λ ns. AreTurns edition operations ns (open_sessions script p) turned) order turns;
      runs = runs;
      is_text = same_text edition script w v text (sym same) (world_length edition operations script a.events w is ∙ sym count) (λ n. sym (lines n)) a.is_text;
    }

-- **and what is read off its places is one of the sessions in some order**
pub places_fair : PlacesAreFair
places_fair edition operations script text a =
    let (events, r) = turns_events edition operations (order_from (length a.prologue.history) a.world.history) (open_sessions script a.prologue) a.turned a.turns in
    record {
      events = events ++ rest a.turned;
      world = a.world;
      is_world = record {
        prologue = a.prologue;
        played = a.played;
        runs = runs_both edition operations events (rest a.turned) (open_sessions script a.prologue) a.turned a.world r a.runs;
      };
      none_left = All-from_get_or (λ (s : SessionState). s.left ≡ []) a.world.sessions (new_session 0 [])
          (λ i l. nil_from_length (session_at a.world.sessions i).left (rest_left edition operations a.turned a.world i a.runs));
      is_text = a.is_text;
    }
