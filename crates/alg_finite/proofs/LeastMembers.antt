-- The least member of a finite type with a property, by a total order.
use Rattle.std.proofs.Common.{◌≡◌, ◌⊎◌, ⊎_elim, inl, inr, ℕ, zero, suc, ◌<◌, ◌≤◌, sym, subst, arith, Ordering, Less, Equal, Greater, eq-or-lt_of_le, refl}
use Rattle.std.specs.Cmp.{IsTotalOrder}
use Rattle.std.proofs.lemmas.Cmp.{tied_itself}
use Rattle.alg_finite.proofs.Enumerations.{Enumeration}

module _ {A : Type 0} {n : ℕ} (M : Enumeration A n) {cmp : A → A → Ordering} (T : IsTotalOrder cmp)
    (P : A → Type 0) (decide : (a : A) → P a ⊎ (P a → ⊥)) where
  -- a is the least of those with a number below i, or there is none
  abbrev LeastOrNone : ℕ → Type 0
  LeastOrNone i = ((a : A) × P a × ((j : ℕ) → j < i → P (M.at j) → cmp (M.at j) a ≡ Less → ⊥))
      ⊎ ((j : ℕ) → j < i → P (M.at j) → ⊥)

  not_before_itself : (a : A) → cmp a a ≡ Less → ⊥
  not_before_itself a l = let t : cmp a a ≡ Equal = tied_itself T a in cc

  below_or_at : (i j : ℕ) → j < suc i → (j ≡ i) ⊎ (j < i)
  below_or_at i j l = eq-or-lt_of_le (let m : j ≤ i = omega arith in m)

  one_more : (i : ℕ) → P (M.at i) → LeastOrNone i → LeastOrNone (suc i)
  one_more i here (inl a) = by_order (cmp (M.at i) a.0) refl_of
    where
      refl_of : cmp (M.at i) a.0 ≡ cmp (M.at i) a.0
      refl_of = refl

      keep : (cmp (M.at i) a.0 ≡ Less → ⊥) → LeastOrNone (suc i)
      keep n = inl (
        a.0,
        a.1,
        λ j l k e. ⊎_elim
            (λ s. n (subst (λ t. cmp (M.at t) a.0 ≡ Less) s e))
            (λ m. a.2 j m k e) (below_or_at i j l),
      )

      by_order : (r : Ordering) → cmp (M.at i) a.0 ≡ r → LeastOrNone (suc i)
      by_order Less e = inl (
        M.at i,
        here,
        λ j l k d. ⊎_elim
            (λ s. not_before_itself (M.at i) (subst (λ t. cmp (M.at t) (M.at i) ≡ Less) s d))
            (λ m. a.2 j m k (T.trans (M.at j) (M.at i) a.0 d e)) (below_or_at i j l),
      )
      by_order Equal e = keep (λ d. cc)
      by_order Greater e = keep (λ d. cc)
  one_more i here (inr none) = inl (
    M.at i,
    here,
    λ j l k d. ⊎_elim
        (λ s. not_before_itself (M.at i) (subst (λ t. cmp (M.at t) (M.at i) ≡ Less) s d))
        (λ m. none j m k) (below_or_at i j l),
  )

  none_more : (i : ℕ) → (P (M.at i) → ⊥) → LeastOrNone i → LeastOrNone (suc i)
  none_more i n (inl a) = inl (
    a.0,
    a.1,
    λ j l k e. ⊎_elim (λ s. n (subst (λ t. P (M.at t)) s k)) (λ m. a.2 j m k e)
        (below_or_at i j l),
  )
  none_more i n (inr none) =
      inr (λ j l k. ⊎_elim (λ s. n (subst (λ t. P (M.at t)) s k)) (λ m. none j m k)
      (below_or_at i j l))

  least_or_none : (i : ℕ) → LeastOrNone i
  least_or_none zero = inr (λ j l k. omega arith)
  least_or_none (suc i) = ⊎_elim (λ k. one_more i k (least_or_none i))
      (λ k. none_more i k (least_or_none i)) (decide (M.at i))

  -- **where there is a member with P, there is a least one**
  pub least_member : (b : A) → P b → (a : A) × P a × ((c : A) → P c → cmp c a ≡ Less → ⊥)
  least_member b k = ⊎_elim
      (λ a. (
        a.0,
        a.1,
        λ c l e. a.2 (M.index c) (M.index_below c) (subst P (sym (M.at_index c)) l)
            (subst (λ t. cmp t a.0 ≡ Less) (sym (M.at_index c)) e),
      ))
      (λ none. absurd (none (M.index b) (M.index_below b) (subst P (sym (M.at_index b)) k)))
      (least_or_none n)
