-- Each session's lines answer its commands over the one history.
use Rattle.std.proofs.Common.{◌≡◌, ℕ, zero, suc, ◌+◌, ◌<◌, ◌≤◌, List, [], ◌∷◌, ◌++◌, length, map, set, refl, sym, ap, ◌∙◌, subst, arith, inl, inr, length-append, append-nil, append_assoc, get_or-set_same, get_or-set_other, Some}
use Rattle.std.specs.Prelude.{slice_get, slice_index_or, All}
use Rattle.std.specs.FinMap.{empty}
use Rattle.std.proofs.lemmas.List.{get_or_past, get_or_append_left, get_or-append_right, length-map, length-set, take-append-le}
use Rattle.std.proofs.lemmas.Bool.{cases_eq, cases_lt}
use Rattle.std.proofs.lemmas.Option.{none-some, slice_get_within}
use Rattle.alg_model.specs.Lattices as lattices
use Rattle.alg_model.specs.Lattices.{Lattice}
use Rattle.lat_core.specs.declared.replies.Entry.{Entry}
use Rattle.lat_core.specs.declared.outcomes.Line.{Line}
use Rattle.lat_core.specs.Histories.{IsAfter}
use Rattle.lat_language.specs.declared.commands.Command.{Command}
use Rattle.lat_language.specs.declared.scripts.Script.{Script}
use Rattle.lat_language.specs.declared.scripts.SessionScript.{SessionScript}
use Rattle.lat_session.specs.Variables.{Variables}
use Rattle.lat_session.specs.Outcomes.{Operations}
use Rattle.lat_playing.specs.Worlds.{SessionState, World, new_session, session_at, only_prologue, open_sessions, rest, HasLine, Happens, Runs, IsWorld}
use Rattle.lat_playing.specs.Worlds.HasLine.{change as enters, read as asks}
use Rattle.lat_playing.specs.Worlds.Happens.{nothing, plays}
use Rattle.lat_playing.specs.Answered.{IsAnswered, AreAnswered, commands_of, opening_front}
use Rattle.lat_playing.specs.Answered.IsAnswered.{change, read}
use Rattle.lat_playing.specs.PrivateAnswered.{Answers, Stands}
use Rattle.lat_playing.specs.Theorems.{LinesAnswerCommands}
use Rattle.lat_playing.proofs.WorldEvents.{runs_both}
use Rattle.lat_playing.proofs.FinishedWorlds.{solo_finished}

-- ---- entries at places
get_later : (xs ys : List Entry) (k : ℕ) (x : Entry) → slice_get xs k ≡ Some x
    → slice_get (xs ++ ys) k ≡ Some x
get_later [] ys k x e = absurd (none-some x e)
get_later (y ∷ xs) ys zero x e = e
get_later (y ∷ xs) ys (suc k) x e = get_later xs ys k x e

get_last : (xs : List Entry) (x : Entry) → slice_get (xs ++ x ∷ []) (length xs) ≡ Some x
get_last [] x = refl
get_last (y ∷ xs) x = get_last xs x

module _ (edition : lattices.Edition) (operations : Operations) where
  -- ---- a longer history
  -- a line answers its command over it too, and the session has seen no more than there was
  one_later : {n : ℕ} {history : List Entry} (later : List Entry) {l : Line}
      {variables v : Variables} {front f : ℕ} {command : Command} → front ≤ length history
      → IsAnswered edition operations n history variables front command l v f
      → IsAnswered edition operations n (history ++ later) variables front command l v f
      × (f ≤ length history)
  one_later {history = history} later {l = l} within (change {request} {reply} requested changed beyond at) = (
    change requested changed beyond (get_later history later l.mark _ at),
    omega (arith, slice_get_within history l.mark _ at),
  )
  one_later {history = history} later {front = front} within (read {L} none mark seen has) = (
    read none mark (subst (λ es. IsAfter edition es L) (sym (take-append-le front history later within)) seen) has,
    within,
  )

  all_later : (n : ℕ) (history later : List Entry) (commands : List Command) (lines : List Line)
      (variables : Variables) (front : ℕ) (after : Variables) (seen : ℕ) → front ≤ length history
      → Answers edition operations n history variables front commands lines after seen
      → Answers edition operations n (history ++ later) variables front commands lines after seen
  all_later n history later [] [] variables front after seen within e = e
  all_later n history later (c ∷ commands) (l ∷ lines) variables front after seen within (v, f, one, more) =
      let (also, inside) = one_later later within one in
      (v, f, also, all_later n history later commands lines v f after seen inside more)
  all_later n history later [] (l ∷ lines) variables front after seen within e = absurd e
  all_later n history later (c ∷ commands) [] variables front after seen within e = absurd e

  -- ---- one command more
  answers_more : (n : ℕ) (history : List Entry) (commands : List Command) (lines : List Line)
      (variables : Variables) (front : ℕ) (after : Variables) (seen : ℕ) (c : Command) (l : Line)
      (v : Variables) (f : ℕ)
      → Answers edition operations n history variables front commands lines after seen
      → IsAnswered edition operations n history after seen c l v f
      → Answers edition operations n history variables front (commands ++ c ∷ [])
      (lines ++ l ∷ []) v f
  answers_more n history [] [] variables front after seen c l v f (e, d) a = (
    v,
    f,
    subst (λ u. IsAnswered edition operations n history u front c l v f) e
        (subst (λ k. IsAnswered edition operations n history after k c l v f) d a),
    (refl, refl),
  )
  answers_more n history (b ∷ commands) (m ∷ lines) variables front after seen c l v f (u, k, one, more) a =
      (u, k, one, answers_more n history commands lines u k after seen c l v f more a)
  answers_more n history [] (m ∷ lines) variables front after seen c l v f e a = absurd e
  answers_more n history (b ∷ commands) [] variables front after seen c l v f e a = absurd e

  -- what is answered up to some point is answered
  are_answered : (n : ℕ) (history : List Entry) (commands : List Command) (lines : List Line)
      (variables : Variables) (front : ℕ) (after : Variables) (seen : ℕ)
      → Answers edition operations n history variables front commands lines after seen
      → AreAnswered edition operations n history variables front commands lines
  are_answered n history [] [] variables front after seen e = tt
  are_answered n history (c ∷ commands) (l ∷ lines) variables front after seen (v, f, one, more) =
      (v, f, one, are_answered n history commands lines v f after seen more)
  are_answered n history [] (l ∷ lines) variables front after seen e = absurd e
  are_answered n history (c ∷ commands) [] variables front after seen e = absurd e

  -- ---- one event
  -- the line answers the command over the history that it leaves
  line_answers : {n : ℕ} {history h : List Entry} {variables v : Variables} {front f : ℕ}
      {command : Command} {l : Line} → front ≤ length history
      → HasLine edition operations n history variables front command h v f l
      → IsAnswered edition operations n h variables front command l v f
  line_answers {n} {history} within (enters {request} {reply} M requested after step) =
      change requested refl within (get_last history (record { session = n; request = request; reply = reply }))
  line_answers within (asks none seen has) = read none refl seen has

  -- which begins with the history before, and has all that is seen
  line_grows : {n : ℕ} {history h : List Entry} {variables v : Variables} {front f : ℕ}
      {command : Command} {l : Line} → front ≤ length history
      → HasLine edition operations n history variables front command h v f l
      → (later : List Entry) × (h ≡ history ++ later) × (f ≤ length h)
  line_grows {n} {history} within (enters {request} {reply} M requested after step) = (
    record { session = n; request = request; reply = reply } ∷ [],
    refl,
    omega (arith, length-append history (record { session = n; request = request; reply = reply } ∷ [])),
  )
  line_grows {history = history} within (asks none seen has) = ([], sym (append-nil history), within)

  stands_later : (n : ℕ) (history later : List Entry) (commands : List Command) (front : ℕ)
      (s : SessionState) → Stands edition operations n history commands front s
      → Stands edition operations n (history ++ later) commands front s
  stands_later n history later commands front s S = record {
    played = S.played;
    all = S.all;
    begun = omega (arith, S.begun, length-append history later);
    within = omega (arith, S.within, length-append history later);
    answers = all_later n history later S.played s.lines empty front s.variables s.front S.begun S.answers;
  }

  -- how all sessions of a world stand, which began with these commands and fronts
  unfoldable pub AllStand : (ℕ → List Command) → (ℕ → ℕ) → World → Type 0
  AllStand commands fronts w = (n : ℕ) → n < length w.sessions
      → Stands edition operations n w.history (commands n) (fronts n) (session_at w.sessions n)

  happens_stands : (commands : ℕ → List Command) (fronts : ℕ → ℕ) (n : ℕ) (w v : World)
      → Happens edition operations n w v → AllStand commands fronts w → AllStand commands fronts v
  unfolding AllStand
  happens_stands commands fronts n w v (nothing none) stand = stand
  happens_stands commands fronts n w v (plays {history'} {s' = t} inside P) stand =
      let s = session_at w.sessions n in
      let S = stand n inside in
      let (later, e, seen) = line_grows S.within P.has_line in
      let own : Stands edition operations n history' (commands n) (fronts n) t = record {
        played = S.played ++ P.command ∷ [];
        all = S.all ∙ ap (λ cs. S.played ++ cs) P.next ∙ sym (append_assoc S.played (P.command ∷ []) t.left);
        begun = omega (arith, S.begun, ap length e, length-append w.history later);
        within = seen;
        answers = subst (λ ls. Answers edition operations n history' empty (fronts n) (S.played ++ P.command ∷ []) ls t.variables t.front) (sym P.lines)
            (answers_more n history' S.played s.lines empty (fronts n) s.variables s.front P.command P.line t.variables t.front
            (subst (λ es. Answers edition operations n es empty (fronts n) S.played s.lines s.variables s.front) (sym e)
            (all_later n w.history later S.played s.lines empty (fronts n) s.variables s.front S.begun S.answers))
            (line_answers S.within P.has_line));
      } in
      λ k l. elim (cases_eq k n) [
        | inl same ↦
            let there : session_at (set w.sessions n t) k ≡ t = ap (λ i. session_at (set w.sessions n t) i) same ∙ get_or-set_same w.sessions n t (new_session 0 []) inside in
            subst (λ u. Stands edition operations k history' (commands k) (fronts k) u) (sym there)
            (subst (λ i. Stands edition operations i history' (commands i) (fronts i) t) (sym same) own)
        | inr other ↦
            subst (λ u. Stands edition operations k history' (commands k) (fronts k) u) (sym (get_or-set_other w.sessions n k t (new_session 0 []) other))
            (subst (λ es. Stands edition operations k es (commands k) (fronts k) (session_at w.sessions k)) (sym e)
            (stands_later k w.history later (commands k) (fronts k) (session_at w.sessions k)
            (stand k (omega (arith, l, length-set w.sessions n t)))))
      ]

  pub runs_stand : (commands : ℕ → List Command) (fronts : ℕ → ℕ) (events : List ℕ) (w v : World)
      → Runs edition operations events w v → AllStand commands fronts w → AllStand commands fronts v
  runs_stand commands fronts [] w v e stand = subst (AllStand commands fronts) (sym e) stand
  runs_stand commands fronts (n ∷ events) w v (x, h, r) stand =
      runs_stand commands fronts events x v r (happens_stands commands fronts n w x h stand)

  -- ---- before the first command of a session
  new_stands : (n : ℕ) (history : List Entry) (commands : List Command) (front : ℕ)
      → front ≤ length history
      → Stands edition operations n history commands front (new_session front commands)
  new_stands n history commands front within =
      record { played = []; all = refl; begun = within; within = within; answers = (refl, refl) }

  pub prologue_stands : (script : Script)
      → AllStand (commands_of script) (opening_front 0) (only_prologue script.prologue)
  unfolding AllStand
  prologue_stands script zero l = new_stands 0 [] script.prologue 0 (omega arith)
  prologue_stands script (suc k) l = absurd (omega (arith, l))

  pub new_at : (front : ℕ) (scripts : List SessionScript) (k : ℕ) → k < length scripts
      → session_at (map (λ (s : SessionScript). new_session front s.commands) scripts) k
      ≡ new_session front (slice_index_or (map (λ (s : SessionScript). s.commands) scripts) k [])
  new_at front [] k l = absurd (omega (arith, l))
  new_at front (s ∷ scripts) zero l = refl
  new_at front (s ∷ scripts) (suc k) l = new_at front scripts k (omega (arith, l))

  -- **when the sessions open, they have seen all entries of the prologue**
  open_stands : (script : Script) (w : World) → length w.sessions ≡ 1
      → AllStand (commands_of script) (opening_front 0) w
      → AllStand (commands_of script) (opening_front (length w.history)) (open_sessions script w)
  unfolding AllStand
  open_stands script w one stand zero l =
      let new = map (λ (s : SessionScript). new_session (length w.history) s.commands) script.sessions in
      subst (λ u. Stands edition operations 0 w.history script.prologue 0 u)
      (sym (get_or_append_left w.sessions new (new_session 0 []) 0 (omega (arith, one))))
      (stand 0 (omega (arith, one)))
  open_stands script w one stand (suc k) l =
      let new = map (λ (s : SessionScript). new_session (length w.history) s.commands) script.sessions in
      let inside : k < length script.sessions = omega (
        arith,
        l,
        one,
        length-append w.sessions new,
        length-map script.sessions (λ (s : SessionScript). new_session (length w.history) s.commands),
      ) in
      let there : session_at (w.sessions ++ new) (suc k) ≡ session_at new k =
      get_or-append_right w.sessions new 1 (suc k) (new_session 0 []) one (omega arith)
      ∙ ap (λ i. session_at new i) (omega arith) in
      subst (λ u. Stands edition operations (suc k) w.history (commands_of script (suc k)) (length w.history) u)
      (sym (there ∙ new_at (length w.history) script.sessions k inside))
      (new_stands (suc k) w.history (commands_of script (suc k)) (length w.history) (omega arith))

  happens_length : (n : ℕ) (w v : World) → Happens edition operations n w v
      → length v.sessions ≡ length w.sessions
  happens_length n w v (nothing none) = refl
  happens_length n w v (plays {s' = t} inside P) = length-set w.sessions n t

  pub runs_length : (events : List ℕ) (w v : World) → Runs edition operations events w v
      → length v.sessions ≡ length w.sessions
  runs_length [] w v e = ap (λ (u : World). length u.sessions) e
  runs_length (n ∷ events) w v (x, h, r) = runs_length events x v r ∙ happens_length n w x h

  world_stands : (script : Script) (events : List ℕ) (w : World)
      → (a : IsWorld edition operations script events w)
      → AllStand (commands_of script) (opening_front (length a.prologue.history)) w
  world_stands script events w a =
      runs_stand (commands_of script) (opening_front (length a.prologue.history)) events
      (open_sessions script a.prologue) w a.runs
      (open_stands script a.prologue
      (runs_length (rest (only_prologue script.prologue)) (only_prologue script.prologue) a.prologue a.played)
      (runs_stand (commands_of script) (opening_front 0) (rest (only_prologue script.prologue)) (only_prologue script.prologue) a.prologue a.played (prologue_stands script)))

  -- ---- no command is left
  -- a number past the last session has no commands
  pub no_commands : (script : Script) (n : ℕ) → length script.sessions + 1 ≤ n
      → commands_of script n ≡ []
  no_commands script zero past = absurd (omega (arith, past))
  no_commands script (suc k) past =
      get_or_past (map (λ (s : SessionScript). s.commands) script.sessions) k []
      (omega (arith, past, length-map script.sessions (λ (s : SessionScript). s.commands)))

  session_answered : (n : ℕ) (history : List Entry) (commands : List Command) (front : ℕ)
      (s : SessionState) → s.left ≡ [] → Stands edition operations n history commands front s
      → AreAnswered edition operations n history empty front commands s.lines
  session_answered n history commands front s none S =
      subst (λ cs. AreAnswered edition operations n history empty front cs s.lines)
      (sym (S.all ∙ ap (λ cs. S.played ++ cs) none ∙ append-nil S.played))
      (are_answered n history S.played s.lines empty front s.variables s.front S.answers)

  open_length : (script : Script) (w : World) → length w.sessions ≡ 1
      → length (open_sessions script w).sessions ≡ length script.sessions + 1
  open_length script w one =
      let new = map (λ (s : SessionScript). new_session (length w.history) s.commands) script.sessions in
      omega (
        arith,
        length-append w.sessions new,
        one,
        length-map script.sessions (λ (s : SessionScript). new_session (length w.history) s.commands),
      )

  pub world_length : (script : Script) (events : List ℕ) (w : World)
      → IsWorld edition operations script events w
      → length w.sessions ≡ length script.sessions + 1
  world_length script events w a =
      runs_length events (open_sessions script a.prologue) w a.runs
      ∙ open_length script a.prologue
      (runs_length (rest (only_prologue script.prologue)) (only_prologue script.prologue) a.prologue a.played)

  -- **where no command is left, each session's lines answer its commands**
  pub world_answered : (script : Script) (events : List ℕ) (w : World)
      → (a : IsWorld edition operations script events w)
      → All (λ (s : SessionState). s.left ≡ []) w.sessions → (n : ℕ)
      → AreAnswered edition operations n w.history empty
      (opening_front (length a.prologue.history) n) (commands_of script n) (session_at w.sessions n).lines
  unfolding AllStand
  world_answered script events w a none n =
      let front : ℕ = opening_front (length a.prologue.history) n in
      elim (cases_lt n (length w.sessions)) [
        | inl within ↦ session_answered n w.history (commands_of script n) front
            (session_at w.sessions n) (none n (new_session 0 []) within)
            (world_stands script events w a n within)
        | inr past ↦ subst (λ cs. AreAnswered edition operations n w.history empty front cs (session_at w.sessions n).lines)
            (sym (no_commands script n (omega (arith, past, world_length script events w a))))
            (subst (λ ls. AreAnswered edition operations n w.history empty front [] ls)
            (sym (ap (λ (s : SessionState). s.lines) (get_or_past w.sessions n (new_session 0 []) past))) tt)
      ]

-- **each session's lines answer its commands**
pub lines_answer : LinesAnswerCommands
lines_answer edition operations script w a n = world_answered edition operations script
    (map (λ place. place + 1) script.schedule ++ rest a.scheduled) w
    (record {
      prologue = a.is_world.prologue;
      played = a.is_world.played;
      runs = runs_both edition operations (map (λ place. place + 1) script.schedule) (rest a.scheduled) (open_sessions script a.is_world.prologue) a.scheduled w a.is_world.runs a.runs;
    })
    (solo_finished edition operations script w a).none_left n
