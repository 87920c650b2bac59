-- A value put into a rising list before the first that comes after it.
use Rattle.std.proofs.Common.{◌≡◌, ◌≢◌, ℕ, ◌<◌, ◌≤◌, List, [], ◌∷◌, length, slice_index_or, take, drop, ap, subst, arith, ⊎_elim, inl, inr, Less}
use Rattle.std.specs.List.{Contains, insert}
use Rattle.std.proofs.lemmas.Bool.{cases_eq}
use Rattle.std.proofs.lemmas.List.Elements.{All-append, All-cons, All-take, All-drop, Contains-get_or}
use Rattle.std.proofs.lemmas.List.Edits.{length-insert}
use Rattle.std.specs.Ordering.{nat_cmp}
use Rattle.alg_model.specs.Factors.{order_by}
use Rattle.alg_model.specs.Maps.{Field, field_values}
use Rattle.alg_model.specs.Roots.{IsBefore}
use Rattle.alg_splitting.proofs.RootLists.{before_through, before_or_after, rising_insert, insert_contains}
use Rattle.ff_roots.specs.PrivateCollecting.{IsRising, Collects}

module _ (F : Field) (vs : List (List ℕ)) (i : ℕ) (v : List ℕ) (R : IsRising F vs)
    (vv : (field_values F).Valid v) (new : ¬ Contains vs v) (l : i ≤ length vs)
    (before : (k : ℕ) (d : List ℕ) → k < i → order_by nat_cmp v (slice_index_or vs k d) ≢ Less)
    (after : (d : List ℕ) → i < length vs → order_by nat_cmp v (slice_index_or vs i d) ≡ Less) where
  below : (k : ℕ) → k < i → IsBefore (slice_index_or vs k []) v
  below k h = ⊎_elim (λ b. b) (λ b. absurd (before k [] h b))
      (before_or_after (slice_index_or vs k []) v
      (λ e. new (subst (Contains vs) e (Contains-get_or vs k [] (omega arith)))))

  above : (k : ℕ) → i ≤ k → k < length vs → IsBefore v (slice_index_or vs k [])
  above k h n = ⊎_elim
      (λ (e : i ≡ k). subst (λ j. IsBefore v (slice_index_or vs j [])) e (after [] (omega arith)))
      (λ (e : i ≢ k). before_through v (slice_index_or vs i []) (slice_index_or vs k [])
      (after [] (omega arith)) (R.rising i k [] (omega arith) n))
      (cases_eq i k)

  -- **it is one more, and the list rises**
  pub inserted : Collects F (λ w. w ≡ v) 1 vs (insert vs i v)
  inserted = record {
    list = record {
      values = All-append (field_values F).Valid (take i vs) (v ∷ drop i vs)
          (All-take (field_values F).Valid i vs R.values)
          (All-cons (field_values F).Valid v (drop i vs) vv
          (All-drop (field_values F).Valid i vs R.values));
      rising = rising_insert vs i v R.rising l below above;
    };
    count = length-insert vs i v l;
    members = λ w. (
      λ h. ⊎_elim (λ e. inr e) (λ m. inl m) ((insert_contains vs i v l w).0 h),
      λ h. (insert_contains vs i v l w).1 (⊎_elim (λ m. inr m) (λ e. inl e) h),
    );
  }

-- a list with nothing in it rises
pub nothing_rises : (F : Field) (vs : List (List ℕ)) → vs ≡ [] → IsRising F vs
nothing_rises F vs e = record {
  values = λ k d l. absurd (omega (arith, ap length e));
  rising = λ i j d l m. absurd (omega (arith, ap length e));
}

-- and has no member
pub nothing_contained : (vs : List (List ℕ)) → vs ≡ [] → (v : List ℕ) → ¬ Contains vs v
nothing_contained vs e v m = omega (arith, m.1, ap length e)
