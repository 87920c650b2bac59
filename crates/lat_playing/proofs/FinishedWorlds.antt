-- After the schedule and the rest nothing is left, and each command has its line.
use Rattle.std.proofs.Common.{◌≡◌, ℕ, zero, suc, ◌+◌, ◌-◌, ◌≤◌, cond, List, [], ◌∷◌, ◌++◌, length, map, set, replicate, refl, sym, ap, ap₂, ◌∙◌, subst, arith, inl, inr, length-append, get_or-set_same, get_or-set_other}
use Rattle.std.specs.Prelude.{◌==◌, All, count_by, slice_index_or}
use Rattle.std.proofs.lemmas.List.{get_or_past, get_or-map, map-append, nil_from_length}
use Rattle.std.proofs.lemmas.List.Elements.{All-head, All-tail, All-from_get_or}
use Rattle.std.proofs.lemmas.List.Sums.{sum_by-cons, sum_by-append}
use Rattle.std.proofs.Math.Seq.{map-set_same}
use Rattle.std.proofs.lemmas.Bool.{cases_eq, cases_lt, eq-eqb, ne_eqb}
use Rattle.alg_model.specs.Lattices as lattices
use Rattle.lat_language.specs.declared.scripts.Script.{Script}
use Rattle.lat_language.specs.declared.scripts.SessionScript.{SessionScript}
use Rattle.lat_session.specs.Outcomes.{Operations}
use Rattle.lat_playing.specs.Worlds.{SessionState, World, new_session, session_at, only_prologue, open_sessions, rest_from, rest, Happens, Runs, IsWorld, IsSolo}
use Rattle.lat_playing.specs.Worlds.Happens.{nothing, plays}
use Rattle.lat_playing.specs.Theorems.{IsFinished}
use Rattle.lat_playing.specs.PrivateWorlds.{left_at}

-- ---- events of a number
count_of : ℕ → List ℕ → ℕ
count_of k events = count_by (λ n. n == k) events

count_here : (k : ℕ) (events : List ℕ) → count_of k (k ∷ events) ≡ 1 + count_of k events
unfolding count_of
count_here k events = sum_by-cons (λ n. cond (n == k) 1 0) k events
    ∙ ap (λ b. cond b 1 0 + count_by (λ n. n == k) events) (eq-eqb k k refl)

count_there : (n k : ℕ) (events : List ℕ) → (k ≡ n → ⊥)
    → count_of k (n ∷ events) ≡ count_of k events
unfolding count_of
count_there n k events other = sum_by-cons (λ m. cond (m == k) 1 0) n events
    ∙ ap (λ b. cond b 1 0 + count_by (λ m. m == k) events) (ne_eqb n k (λ e. other (sym e)))
    ∙ omega arith

count_none : (k : ℕ) → count_of k [] ≡ 0
unfolding count_of
count_none k = refl

count_both : (k : ℕ) (xs ys : List ℕ) → count_of k (xs ++ ys) ≡ count_of k xs + count_of k ys
unfolding count_of
count_both k xs ys = sum_by-append (λ n. cond (n == k) 1 0) xs ys

count_replicate : (k c : ℕ) → count_of k (replicate c k) ≡ c
count_replicate k zero = count_none k
count_replicate k (suc c) =
    let more = count_here k (replicate c k) in omega (arith, more, count_replicate k c)

-- the rest has each number as often as it has commands left
rest_counts : (n j : ℕ) (counts : List ℕ)
    → slice_index_or counts j 0 ≤ count_of (n + j) (rest_from n counts)
rest_counts n j [] = omega arith
rest_counts n zero (c ∷ counts) =
    let own : count_of (n + 0) (replicate c n) ≡ c = ap (λ k. count_of k (replicate c n)) (omega arith) ∙ count_replicate n c in
    omega (arith, own, count_both (n + 0) (replicate c n) (rest_from (suc n) counts))
rest_counts n (suc j) (c ∷ counts) =
    let later : slice_index_or counts j 0 ≤ count_of (n + suc j) (rest_from (suc n) counts) =
    subst (λ k. slice_index_or counts j 0 ≤ count_of k (rest_from (suc n) counts)) (omega arith) (rest_counts (suc n) j counts) in
    omega (arith, later, count_both (n + suc j) (replicate c n) (rest_from (suc n) counts))

-- ---- commands and lines
-- each command of a session is left or has its line
total : SessionState → ℕ
total s = length s.left + length s.lines

new_total : (front : ℕ) (scripts : List SessionScript)
    → map total (map (λ (s : SessionScript). new_session front s.commands) scripts)
    ≡ map (λ (s : SessionScript). length s.commands) scripts
unfolding total
new_total front [] = refl
new_total front (s ∷ scripts) = ap₂ ◌∷◌ (omega arith) (new_total front scripts)

all_lines : (sessions : List SessionState) → All (λ (s : SessionState). s.left ≡ []) sessions
    → map (λ (s : SessionState). length s.lines) sessions ≡ map total sessions
unfolding total
all_lines [] h = refl
all_lines (s ∷ sessions) h =
    let none : length s.left ≡ 0 = ap length (All-head (λ (t : SessionState). t.left ≡ []) s sessions h) in
    ap₂ ◌∷◌ (omega (arith, none)) (all_lines sessions (All-tail (λ (t : SessionState). t.left ≡ []) s sessions h))

-- ---- one event
module _ (edition : lattices.Edition) (operations : Operations) where
  happens_left_same : (n : ℕ) (w v : World) → Happens edition operations n w v
      → left_at v n ≡ left_at w n - 1
  happens_left_same n w v (nothing none) =
      let e : left_at w n ≡ 0 = ap length none in omega (arith, e)
  happens_left_same n w v (plays {s' = t} within P) =
      let e : left_at w n ≡ length (P.command ∷ t.left) = ap length P.next in
      let d : length (session_at (set w.sessions n t) n).left ≡ length t.left = ap (λ (s : SessionState). length s.left) (get_or-set_same w.sessions n t (new_session 0 []) within) in
      omega (arith, e, d)

  happens_left_other : (n : ℕ) (w v : World) (k : ℕ) → (k ≡ n → ⊥)
      → Happens edition operations n w v → left_at v k ≡ left_at w k
  happens_left_other n w v k other (nothing none) = refl
  happens_left_other n w v k other (plays {s' = t} within P) =
      ap (λ (s : SessionState). length s.left) (get_or-set_other w.sessions n k t (new_session 0 []) other)

  -- **each event of a number takes one of its commands**
  runs_left : (events : List ℕ) (w v : World) (k : ℕ) → Runs edition operations events w v
      → left_at v k ≡ left_at w k - count_of k events
  runs_left [] w v k e =
      let d : left_at v k ≡ left_at w k = ap (λ u. left_at u k) e in omega (arith, d, count_none k)
  runs_left (n ∷ events) w v k (x, h, r) = elim (cases_eq k n) [
    | inl same ↦
        let first : left_at x k ≡ left_at w k - 1 = subst (λ i. left_at x i ≡ left_at w i - 1) (sym same) (happens_left_same n w x h) in
        let count : count_of k (n ∷ events) ≡ 1 + count_of k events = subst (λ m. count_of k (m ∷ events) ≡ 1 + count_of k events) same (count_here k events) in
        omega (arith, runs_left events x v k r, first, count)
    | inr other ↦ omega (
      arith,
      runs_left events x v k r,
      happens_left_other n w x k other h,
      count_there n k events other,
    )
  ]

  -- **after the rest nothing is left**
  pub rest_left : (w v : World) (k : ℕ) → Runs edition operations (rest w) w v → left_at v k ≡ 0
  rest_left w v k r =
      let counts : List ℕ = map (λ (s : SessionState). length s.left) w.sessions in
      let played : slice_index_or counts k 0 ≤ count_of k (rest_from 0 counts) = subst (λ i. slice_index_or counts k 0 ≤ count_of i (rest_from 0 counts)) (omega arith) (rest_counts 0 k counts) in
      elim (cases_lt k (length w.sessions)) [
        | inl within ↦
            let some : slice_index_or counts k 0 ≡ left_at w k = get_or-map (λ (s : SessionState). length s.left) w.sessions k (new_session 0 []) 0 within in
            omega (arith, runs_left (rest w) w v k r, played, some)
        | inr past ↦
            let none : left_at w k ≡ 0 = ap (λ (s : SessionState). length s.left) (get_or_past w.sessions k (new_session 0 []) past) in
            omega (arith, runs_left (rest w) w v k r, none)
      ]

  -- ---- commands and lines
  happens_total : (n : ℕ) (w v : World) → Happens edition operations n w v
      → map total v.sessions ≡ map total w.sessions
  unfolding total
  happens_total n w v (nothing none) = refl
  happens_total n w v (plays {s' = t} within P) =
      let s = session_at w.sessions n in
      map-set_same total w.sessions n t (new_session 0 [])
      (omega (arith, ap length P.next, ap length P.lines, length-append s.lines (P.line ∷ [])))

  runs_total : (events : List ℕ) (w v : World) → Runs edition operations events w v
      → map total v.sessions ≡ map total w.sessions
  runs_total [] w v e = ap (λ (u : World). map total u.sessions) e
  runs_total (n ∷ events) w v (x, h, r) = runs_total events x v r ∙ happens_total n w x h

  world_total : (script : Script) (events : List ℕ) (w : World)
      → IsWorld edition operations script events w → map total w.sessions
      ≡ length script.prologue ∷ map (λ (s : SessionScript). length s.commands) script.sessions
  unfolding total
  world_total script events w a =
      let front : ℕ = length a.prologue.history in
      let begun : length script.prologue + 0 ≡ length script.prologue = omega arith in
      runs_total events (open_sessions script a.prologue) w a.runs
      ∙ map-append total a.prologue.sessions (map (λ (s : SessionScript). new_session front s.commands) script.sessions)
      ∙ ap₂ ◌++◌ (runs_total (rest (only_prologue script.prologue)) (only_prologue script.prologue) a.prologue a.played ∙ ap (λ n. n ∷ []) begun) (new_total front script.sessions)

  -- **a script is finished**
  pub solo_finished : (script : Script) (w : World) → IsSolo edition operations script w
      → IsFinished script w
  solo_finished script w a =
      let none = All-from_get_or (λ (s : SessionState). s.left ≡ []) w.sessions (new_session 0 []) (λ i l. nil_from_length (session_at w.sessions i).left (rest_left a.scheduled w i a.runs)) in
      record {
        none_left = none;
        lines = all_lines w.sessions none ∙ runs_total (rest a.scheduled) a.scheduled w a.runs
            ∙ world_total script (map (λ place. place + 1) script.schedule) a.scheduled a.is_world;
      }
