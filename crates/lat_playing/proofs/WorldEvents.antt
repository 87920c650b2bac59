-- Events: what they leave is one world, there is one, and all sessions can go on in it.
use Rattle.std.proofs.Common.{◌≡◌, ℕ, ◌<◌, List, [], ◌∷◌, ◌++◌, length, set, refl, sym, ap, ◌∙◌, subst, arith, inl, inr, get_or-set_same, get_or-set_other}
use Rattle.std.specs.Prelude.{All, slice_index_or}
use Rattle.std.proofs.lemmas.List.{get_or_past}
use Rattle.std.proofs.lemmas.List.Elements.{All-rest}
use Rattle.std.proofs.lemmas.Bool.{cases_eq, cases_lt}
use Rattle.alg_model.specs.Lattices as lattices
use Rattle.alg_model.specs.Lattices.{Lattice, IsEdition}
use Rattle.lat_core.specs.declared.replies.Entry.{Entry}
use Rattle.lat_language.specs.declared.commands.Command.{Command}
use Rattle.lat_session.specs.Commands.{IsProperCommand}
use Rattle.lat_session.specs.Outcomes.{Operations, KeepsValues}
use Rattle.lat_playing.specs.Worlds.{SessionState, World, new_session, session_at, HasLine, PlaysNext, Happens, Runs}
use Rattle.lat_playing.specs.Worlds.Happens.{nothing, plays}
use Rattle.lat_playing.specs.PrivateWorlds.{IsFitted, CanGoOn, IsSound}
use Rattle.lat_playing.proofs.WorldLines.{line_one, line_exists, fitted_later, line_leaves}

-- ---- lists
pub first_same : {A : Type 0} (x y : A) (xs ys : List A) → x ∷ xs ≡ y ∷ ys → x ≡ y
first_same x y xs ys e = ap (λ zs. slice_index_or zs 0 x) e

rest_of : {A : Type 0} → List A → List A
rest_of [] = []
rest_of (x ∷ xs) = xs

pub rest_same : {A : Type 0} (x y : A) (xs ys : List A) → x ∷ xs ≡ y ∷ ys → xs ≡ ys
unfolding rest_of
rest_same x y xs ys e = ap rest_of e

pub not_both : {A : Type 0} (xs : List A) (x : A) (ys : List A) → xs ≡ [] → xs ≡ x ∷ ys → ⊥
not_both xs x ys e d = let f : 0 ≡ length (x ∷ ys) = ap length (sym e ∙ d) in omega (arith, f)

-- ---- sessions
pub same_session : (s t : SessionState) → s.variables ≡ t.variables → s.front ≡ t.front
    → s.left ≡ t.left → s.lines ≡ t.lines → s ≡ t
same_session s t p q r l =
    λ i. record { variables = p i; front = q i; left = r i; lines = l i }

pub same_world : {history other : List Entry} {sessions others : List SessionState}
    → history ≡ other → sessions ≡ others
    → ◌≡◌ {A = World} (record { history = history; sessions = sessions })
    (record { history = other; sessions = others })
same_world e d = λ i. record { history = e i; sessions = d i }

-- a session that has a command left is one of the world's
pub within_of : (sessions : List SessionState) (n : ℕ) (c : Command) (cs : List Command)
    → (session_at sessions n).left ≡ c ∷ cs → n < length sessions
within_of sessions n c cs e = elim (cases_lt n (length sessions)) [
  | inl within ↦ within
  | inr past ↦ absurd (not_both (session_at sessions n).left c cs (ap (λ (s : SessionState). s.left) (get_or_past sessions n (new_session 0 []) past)) e)
]

-- ---- events, one after the other
pub runs_both : (edition : lattices.Edition) (operations : Operations) (first later : List ℕ)
    (u v w : World) → Runs edition operations first u v → Runs edition operations later v w
    → Runs edition operations (first ++ later) u w
runs_both edition operations [] later u v w same h =
    subst (λ x. Runs edition operations later x w) same h
runs_both edition operations (n ∷ first) later u v w (x, here, more) h =
    (x, here, runs_both edition operations first later x v w more h)

module _ {edition : lattices.Edition} (operations : Operations) (E : IsEdition edition) where
  -- ---- one event
  plays_one : {n : ℕ} {history h k : List Entry} {s t u : SessionState}
      → CanGoOn edition history s → PlaysNext edition operations n history s h t
      → PlaysNext edition operations n history s k u → (h ≡ k) × (t ≡ u)
  plays_one {n} {history} {h} {k} {s} {t} {u} G P Q =
      let next = sym P.next ∙ Q.next in
      let same : P.command ≡ Q.command = first_same P.command Q.command t.left u.left next in
      let other : HasLine edition operations n history s.variables s.front P.command k u.variables u.front Q.line =
      subst (λ c. HasLine edition operations n history s.variables s.front c k u.variables u.front Q.line) (sym same) Q.has_line in
      let (e, v, f, l) = line_one edition operations E G.fitted P.has_line other in (
        e,
        same_session t u v f (rest_same P.command Q.command t.left u.left next)
            (P.lines ∙ ap (λ x. s.lines ++ x ∷ []) l ∙ sym Q.lines),
      )

  -- **an event leaves one world**
  pub happens_one : {n : ℕ} {w v u : World} → IsSound edition w
      → Happens edition operations n w v → Happens edition operations n w u → v ≡ u
  happens_one S (nothing none) (nothing also) = refl
  happens_one {n} {w} S (nothing none) (plays {s' = t} within P) =
      absurd (not_both (session_at w.sessions n).left P.command t.left none P.next)
  happens_one {n} {w} S (plays {s' = t} within P) (nothing none) =
      absurd (not_both (session_at w.sessions n).left P.command t.left none P.next)
  happens_one {n} {w} S (plays within P) (plays also Q) =
      let (e, d) = plays_one (S.each n) P Q in
      same_world e (ap (λ s. set w.sessions n s) d)

  -- **there is one**
  pub happens_exists : (n : ℕ) (w : World) → IsSound edition w
      → (v : World) × Happens edition operations n w v
  happens_exists n w S = by_left (session_at w.sessions n).left refl
    where
      by_left : (left : List Command) → (session_at w.sessions n).left ≡ left
          → (v : World) × Happens edition operations n w v
      by_left [] e = (w, nothing e)
      by_left (c ∷ cs) e =
          let s = session_at w.sessions n in
          let proper : IsProperCommand c = ((subst (All IsProperCommand) e (S.each n).proper) 0 c (omega arith)) in
          let (h, v, f, l, line) = line_exists edition operations E n w.history s.variables s.front c proper S.legal (S.each n).fitted in
          let t : SessionState = record { variables = v; front = f; left = cs; lines = s.lines ++ l ∷ [] } in (
            record { history = h; sessions = set w.sessions n t },
            plays (within_of w.sessions n c cs e)
                (record { command = c; line = l; next = e; has_line = line; lines = refl }),
          )

  -- **and all can go on**
  pub happens_sound : KeepsValues operations → {n : ℕ} {w v : World} → IsSound edition w
      → Happens edition operations n w v → IsSound edition v
  happens_sound keeps S (nothing none) = S
  happens_sound keeps {n} {w} S (plays {history'} {s'} within P) =
      let s = session_at w.sessions n in
      let proper : All IsProperCommand (P.command ∷ s'.left) = subst (All IsProperCommand) P.next (S.each n).proper in
      let (legal, fitted, (later, e)) = line_leaves edition operations E keeps (proper 0 P.command (omega arith)) S.legal (S.each n).fitted P.has_line in
      record {
        legal = legal;
        each = λ k. elim (cases_eq k n) [
          | inl same ↦ subst (CanGoOn edition history')
              (sym (ap (λ i. session_at (set w.sessions n s') i) same ∙ get_or-set_same w.sessions n s' (new_session 0 []) within))
              (record { fitted = fitted; proper = All-rest IsProperCommand P.command s'.left (P.command ∷ s'.left) refl proper })
          | inr other ↦ subst (CanGoOn edition history')
              (sym (get_or-set_other w.sessions n k s' (new_session 0 []) other))
              (record {
                fitted = subst (λ es. IsFitted edition es (session_at w.sessions k).variables (session_at w.sessions k).front) (sym e) (fitted_later edition operations E later (S.each k).fitted);
                proper = (S.each k).proper;
              })
        ];
      }

  -- ---- events
  pub runs_one : KeepsValues operations → (events : List ℕ)
      {w v u : World} → IsSound edition w → Runs edition operations events w v
      → Runs edition operations events w u → v ≡ u
  runs_one keeps [] S e d = e ∙ sym d
  runs_one keeps (n ∷ events) {u = u} S (x, h, r) (y, k, q) =
      let same : x ≡ y = happens_one S h k in
      runs_one keeps events (happens_sound keeps S h) r
      (subst (λ z. Runs edition operations events z u) (sym same) q)

  pub runs_exists : KeepsValues operations → (events : List ℕ)
      (w : World) → IsSound edition w → (v : World) × Runs edition operations events w v
  runs_exists keeps [] w S = (w, refl)
  runs_exists keeps (n ∷ events) w S =
      let (x, h) = happens_exists n w S in
      let (v, r) = runs_exists keeps events x (happens_sound keeps S h) in
      (v, (x, h, r))

  pub runs_sound : KeepsValues operations → (events : List ℕ) {w v : World}
      → IsSound edition w → Runs edition operations events w v → IsSound edition v
  runs_sound keeps [] S e = subst (IsSound edition) (sym e) S
  runs_sound keeps (n ∷ events) S (x, h, r) =
      runs_sound keeps events (happens_sound keeps S h) r
