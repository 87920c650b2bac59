-- A finite map made from a function on keys that numbers below n enumerate, and one made from a
-- relation between numbers.
--     Pairs n S       it can be told which pairs below n have a thing, and each has at most one
use Rattle.std.proofs.Common.{◌≡◌, ◌⊎◌, ◌↔◌, ℕ, zero, suc, ◌+◌, ◌*◌, ◌/◌, ◌%◌, ◌<◌, nat_cmp, true, false, cond, refl, sym, ap, ◌∙◌, subst, inl, inr, ⊎_elim, Option, Some, None, Ordering, Less, Equal, Greater, arith}
use Rattle.std.specs.FinMap.{FinMap, empty, get, insert, get-empty, get-insert, IsAntisymmetric}
use Rattle.std.specs.Cmp.{IsTotalOrder}
use Rattle.std.specs.Ordering.{eq_by_cmp, is_eq, ordering_then}
use Rattle.std.proofs.lemmas.Cmp.{tied_itself, nat_cmp_total, on_total, then_total}
use Rattle.std.proofs.lemmas.Nat.{div-mul-add, mod-mul-add, mul-add-lt}
use Rattle.alg_model.specs.Lattices.{pair_cmp}
use Rattle.alg_rings.proofs.PolynomialOrder.{nat_cmp_same}
use Rattle.std.proofs.lemmas.Bool.{cases_eq, cases_Bool}

tied : (r : Ordering) → is_eq r ≡ true → r ≡ Equal
tied Less e = cc
tied Equal e = refl
tied Greater e = cc

-- at the key or elsewhere
at_key : {K : Type 0} {R : K → K → Ordering} → IsAntisymmetric R → (k q : K)
    → ((q ≡ k) × (eq_by_cmp R q k ≡ true)) ⊎ (eq_by_cmp R q k ≡ false)
at_key {R = R} A k q = ⊎_elim (λ e. inl (A q k (tied (R q k) e), e)) (λ e. inr e) (cases_Bool (eq_by_cmp R q k))

module _ {K X : Type 0} {R : K → K → Ordering} (T : IsTotalOrder R) (A : IsAntisymmetric R) where
  -- a value put into a map at a key, if there is one
  put : FinMap R X → K → Option X → FinMap R X
  put m k (Some v) = insert m k v
  put m k None = m

  put_new : (m : FinMap R X) (k : K) (o : Option X) (v : X) → o ≡ Some v
      → get (put m k o) k ≡ Some v
  unfolding put
  put_new m k (Some w) v e =
      get-insert T m k w k ∙ ap (λ r. cond (is_eq r) (Some w) (get m k)) (tied_itself T k) ∙ e
  put_new m k None v e = cc

  put_old : (m : FinMap R X) (k : K) (o : Option X) (q : K) (v : X) → (q ≡ k → o ≡ Some v)
      → get m q ≡ Some v → get (put m k o) q ≡ Some v
  unfolding put
  put_old m k (Some w) q v same e = get-insert T m k w q ∙ ⊎_elim
      (λ (p, b). ap (λ x. cond x (Some w) (get m q)) b ∙ same p)
      (λ b. ap (λ x. cond x (Some w) (get m q)) b ∙ e)
      (at_key A k q)
  put_old m k None q v same e = e

  put_only : (m : FinMap R X) (k : K) (o : Option X) (q : K) (v : X) → get (put m k o) q ≡ Some v
      → ((q ≡ k) × (o ≡ Some v)) ⊎ (get m q ≡ Some v)
  unfolding put
  put_only m k (Some w) q v e = ⊎_elim
      (λ (p, b). inl (p, sym (get-insert T m k w q ∙ ap (λ x. cond x (Some w) (get m q)) b) ∙ e))
      (λ b. inr (sym (get-insert T m k w q ∙ ap (λ x. cond x (Some w) (get m q)) b) ∙ e))
      (at_key A k q)
  put_only m k None q v e = inr e

  module _ (key : ℕ → K) (f : K → Option X) where
    -- the map with the values of f at the first n keys
    pub table : ℕ → FinMap R X
    table zero = empty
    table (suc n) = put (table n) (key n) (f (key n))

    -- what it has is a value of f
    pub table_only : (n : ℕ) (q : K) (v : X) → get (table n) q ≡ Some v → f q ≡ Some v
    unfolding table
    table_only zero q v e = let g : get (empty {X = X} {R = R}) q ≡ None = get-empty R q in cc
    table_only (suc n) q v e = ⊎_elim
        (λ (p, g). ap f p ∙ g)
        (λ g. table_only n q v g)
        (put_only (table n) (key n) (f (key n)) q v e)

    -- and it has all values of f at the first n keys
    pub table_all : (n j : ℕ) (v : X) → j < n → f (key j) ≡ Some v → get (table n) (key j) ≡ Some v
    unfolding table
    table_all zero j v h e = absurd (omega arith)
    table_all (suc n) j v h e = ⊎_elim
        (λ (p : j ≡ n). subst (λ i. get (put (table n) (key n) (f (key n))) (key i) ≡ Some v) (sym p)
        (put_new (table n) (key n) (f (key n)) v (subst (λ i. f (key i) ≡ Some v) p e)))
        (λ apart. put_old (table n) (key n) (f (key n)) (key j) v (λ p. ap f (sym p) ∙ e) (table_all n j v (omega arith) e))
        (cases_eq j n)

-- a decided relation as a function: the thing that has it, if there is one
choose : {A : Type 0} {S : A → Type 0} → ((a : A) × S a) ⊎ ¬ ((a : A) × S a) → Option A
choose (inl (a, s)) = Some a
choose (inr none) = None

choose_holds : {A : Type 0} {S : A → Type 0} (d : ((a : A) × S a) ⊎ ¬ ((a : A) × S a)) (m : A)
    → choose d ≡ Some m → S m
unfolding choose
choose_holds {S = S} (inl (a, s)) m e = let f : a ≡ m = cc in subst S f s
choose_holds (inr none) m e = cc

choose_all : {A : Type 0} {S : A → Type 0} (d : ((a : A) × S a) ⊎ ¬ ((a : A) × S a)) (m : A)
    → ((a : A) → S a → a ≡ m) → S m → choose d ≡ Some m
unfolding choose
choose_all (inl (a, s)) m one h = ap Some (one a s)
choose_all (inr none) m one h = absurd (none (m, h))

-- the order of pairs is total, and only equal pairs tie
pub pair_total : IsTotalOrder pair_cmp
pair_total = then_total (on_total (λ (a : ℕ × ℕ). a.0) nat_cmp_total) (on_total (λ (a : ℕ × ℕ). a.1) nat_cmp_total)

both_tie : (a b : Ordering) → ordering_then a b ≡ Equal → (a ≡ Equal) × (b ≡ Equal)
both_tie Less b e = cc
both_tie Equal b e = (refl, e)
both_tie Greater b e = cc

pub pair_antisymmetric : IsAntisymmetric pair_cmp
pair_antisymmetric x y e =
    let (a, b) = both_tie (nat_cmp x.0 y.0) (nat_cmp x.1 y.1) e in
    λ i. (nat_cmp_same x.0 y.0 a i, nat_cmp_same x.1 y.1 b i)

-- a relation between two numbers below n and a thing, that can be told and has at most one thing
-- for each pair
pub record Pairs {A : Type 0} (n : ℕ) (S : ℕ → ℕ → A → Type 0) : Type 0 where
  pub decided : (i k : ℕ) → ((a : A) × S i k a) ⊎ ¬ ((a : A) × S i k a)
  pub one : {i k : ℕ} {a b : A} → S i k a → S i k b → a ≡ b
  pub within : {i k : ℕ} {a : A} → S i k a → (i < n) × (k < n)

module _ {A : Type 0} {n : ℕ} {S : ℕ → ℕ → A → Type 0} (P : Pairs n S) where
  value : ℕ × ℕ → Option A
  value q = choose (P.decided q.0 q.1)

  -- pairs by one number
  key : ℕ → ℕ × ℕ
  key j = (j / n, j % n)

  -- the finite map of the relation
  pub pairs_map : FinMap pair_cmp A
  pairs_map = table pair_total pair_antisymmetric key value (n * n)

  pairs_all : {i k : ℕ} {a : A} → S i k a → get pairs_map (i, k) ≡ Some a
  unfolding pairs_map value key
  pairs_all {i} {k} {a} h = subst (λ q. get pairs_map q ≡ Some a) pair
      (table_all pair_total pair_antisymmetric key value (n * n) (i * n + k) a (mul-add-lt i n k n within.0 within.1)
      (subst (λ q. value q ≡ Some a) (sym pair) (choose_all (P.decided i k) a (λ b s. P.one s h) h)))
    where
      within : (i < n) × (k < n)
      within = P.within h

      pair : key (i * n + k) ≡ (i, k)
      pair = λ t. (div-mul-add i n k within.1 t, mod-mul-add i n k within.1 t)

  -- **it has exactly the pairs of the relation**
  pub pairs_map_has : {i k : ℕ} {a : A} → (get pairs_map (i, k) ≡ Some a) ↔ S i k a
  unfolding pairs_map value
  pairs_map_has {i} {k} {a} = (
    λ e. choose_holds (P.decided i k) a (table_only pair_total pair_antisymmetric key value (n * n) (i, k) a e),
    λ h. pairs_all h,
  )
