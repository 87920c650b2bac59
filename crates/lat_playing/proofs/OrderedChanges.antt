-- The order of the entries is that of the marks of the changes.
use Rattle.std.proofs.Common.{◌≡◌, ℕ, zero, suc, ◌+◌, List, [], ◌∷◌, map, refl, sym, ap, ◌∙◌, subst, arith, inl, inr, Some}
use Rattle.std.specs.Prelude.{slice_get}
use Rattle.std.specs.List.{Contains}
use Rattle.std.proofs.lemmas.Bool.{cases_eq}
use Rattle.std.proofs.lemmas.Option.{none-some, same_Some}
use Rattle.lat_core.specs.declared.replies.Reply.{Reply}
use Rattle.lat_core.specs.declared.replies.Entry.{Entry}
use Rattle.lat_playing.specs.Turns.{order_from}
use Rattle.lat_playing.specs.Theorems.{own_entries_from, OrderIsByMarks}
use Rattle.lat_playing.proofs.HeldChanges.{world_holds}
use Rattle.lat_playing.proofs.AnsweredWorlds.{own_here, own_there}

sessions_of : List Entry → List ℕ
sessions_of entries = map (λ (entry : Entry). entry.session) entries

order_at : (place k : ℕ) (entries : List Entry)
    → slice_get (order_from place entries) k ≡ slice_get (sessions_of entries) (place + k)
unfolding sessions_of
order_at zero k entries = ap (slice_get (sessions_of entries)) (omega arith)
order_at (suc place) k [] = refl
order_at (suc place) k (e ∷ entries) =
    let next : suc (place + k) ≡ suc place + k = omega arith in
    order_at place k entries ∙ ap (slice_get (sessions_of (e ∷ entries))) next

later_in : {A : Type 0} (xs : List A) (y x : A) → Contains xs x → Contains (y ∷ xs) x
later_in xs y x (k, l, e) = (suc k, omega (arith, l), e)

-- an entry of the session is among its own
own_has : (n place i : ℕ) (entries : List Entry) → slice_get (sessions_of entries) i ≡ Some n
    → (reply : Reply) × Contains (own_entries_from n place entries) (place + i, reply)
unfolding sessions_of
own_has n place i [] h = absurd (none-some n h)
own_has n place zero (e ∷ entries) h =
    let here : place ≡ place + 0 = omega arith in (
      e.reply,
      subst (λ xs. Contains xs (place + 0, e.reply)) (sym (own_here n place e entries (same_Some e.session n h)))
          (0, omega arith, ap (λ k. (k, e.reply)) here),
    )
own_has n place (suc i) (e ∷ entries) h =
    let (reply, found) = own_has n (suc place) i entries h in
    let next : suc place + i ≡ place + suc i = omega arith in
    let at : Contains (own_entries_from n (suc place) entries) (place + suc i, reply) = subst (λ k. Contains (own_entries_from n (suc place) entries) (k, reply)) next found in (
      reply,
      elim (cases_eq e.session n) [
        | inl same ↦ subst (λ xs. Contains xs (place + suc i, reply)) (sym (own_here n place e entries same))
            (later_in (own_entries_from n (suc place) entries) (place, e.reply) (place + suc i, reply) at)
        | inr other ↦ subst (λ xs. Contains xs (place + suc i, reply)) (sym (own_there n place e entries other)) at
      ],
    )

-- and each of its own is an entry of the session, at its place
own_at : (n place : ℕ) (entries : List Entry) (p : ℕ × Reply)
    → Contains (own_entries_from n place entries) p
    → (i : ℕ) × (p.0 ≡ place + i) × (slice_get (sessions_of entries) i ≡ Some n)
unfolding sessions_of
own_at n place [] p (k, l, e) = absurd (omega (arith, l))
own_at n place (e ∷ entries) p found = elim (cases_eq e.session n) [
  | inl same ↦ at_own same (λ later. own_at n (suc place) entries p later) (subst (λ xs. Contains xs p) (own_here n place e entries same) found)
  | inr other ↦ at_later (own_at n (suc place) entries p (subst (λ xs. Contains xs p) (own_there n place e entries other) found))
]
  where
    at_later : (i : ℕ) × (p.0 ≡ suc place + i) × (slice_get (sessions_of entries) i ≡ Some n)
        → (i : ℕ) × (p.0 ≡ place + i) × (slice_get (sessions_of (e ∷ entries)) i ≡ Some n)
    at_later (i, d, h) = (suc i, omega (arith, d), h)

    at_own : e.session ≡ n → (Contains (own_entries_from n (suc place) entries) p
        → (i : ℕ) × (p.0 ≡ suc place + i) × (slice_get (sessions_of entries) i ≡ Some n))
        → Contains ((place, e.reply) ∷ own_entries_from n (suc place) entries) p
        → (i : ℕ) × (p.0 ≡ place + i) × (slice_get (sessions_of (e ∷ entries)) i ≡ Some n)
    at_own same more (zero, l, d) =
        let first : place ≡ p.0 = ap (λ q. q.0) d in
        (0, omega (arith, first), ap (λ k. Some k) same)
    at_own same more (suc k, l, d) = at_later (more (k, omega (arith, l), d))

-- **the order of the entries is that of the marks**
pub order_by_marks : OrderIsByMarks
order_by_marks edition operations script events w a place k n =
    let held = world_holds edition operations script events w a n in (
      λ h.
          let there : slice_get (sessions_of w.history) (place + k) ≡ Some n = sym (order_at place k w.history) ∙ h in
          let (reply, found) = own_has n 0 (place + k) w.history there in
          let same : 0 + (place + k) ≡ place + k = omega arith in (
            reply,
            subst (λ xs. Contains xs (place + k, reply)) (sym held)
                (subst (λ i. Contains (own_entries_from n 0 w.history) (i, reply)) same found),
          ),
      λ reply found.
          let (i, d, h) = own_at n 0 w.history (place + k, reply) (subst (λ xs. Contains xs (place + k, reply)) held found) in
          let same : i ≡ place + k = omega (arith, d) in
          order_at place k w.history ∙ ap (slice_get (sessions_of w.history)) (sym same) ∙ h,
    )
