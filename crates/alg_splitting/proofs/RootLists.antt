-- The roots as a list, least first.
use Rattle.std.proofs.Common.{◌≡◌, ◌≢◌, ◌⊎◌, inl, inr, ⊎_elim, ◌↔◌, ℕ, zero, suc, ◌+◌, ◌-◌, ◌<◌, ◌≤◌, List, [], ◌∷◌, length, slice_index_or, AllPairs, Ordering, Less, Equal, Greater, nat_cmp, refl, ap, ap₂, sym, ◌∙◌, subst, arith}
use Rattle.std.specs.List.{Contains, insert}
use Rattle.std.specs.Ordering.{ordering_reverse}
use Rattle.std.proofs.lemmas.Bool.{cases_eq, cases_lt}
use Rattle.std.proofs.lemmas.Cmp.{nat_cmp_total}
use Rattle.std.proofs.lemmas.List.{get_or_default}
use Rattle.std.proofs.lemmas.List.Edits.{get_or-insert_at, get_or-insert_below, get_or-insert_above, length-insert}
use Rattle.std.proofs.lemmas.List.Elements.{Contains-get_or, All-contains}
use Rattle.std.proofs.lemmas.List.Kept.{AllPairs-cons}
use Rattle.alg_model.specs.Polynomials.{evaluate}
use Rattle.alg_model.specs.Maps.{Field, IsFiniteField, field_values}
use Rattle.alg_model.specs.Values.{degree}
use Rattle.alg_model.specs.Factors.{IsPolynomial, order_by}
use Rattle.alg_model.specs.Roots.{IsRoot, IsBefore, IsLeastRoot}
use Rattle.alg_rings.proofs.Decisions.{lists_equal_or_not}
use Rattle.alg_rings.proofs.PolynomialOrder.{order_by_total, order_by_same, nat_cmp_same}
use Rattle.alg_galois.proofs.FieldSizes.{all_values}
use Rattle.alg_splitting.specs.RootLists.{IsRootList}
use Rattle.alg_splitting.specs.PrivateSearch.{Splits}
use Rattle.alg_splitting.proofs.SplitPolynomials.{split_count, roots_bounded}

-- ---- the order of values
-- it is transitive
pub before_through : (a b d : List ℕ) → IsBefore a b → IsBefore b d → IsBefore a d
before_through a b d s t = (order_by_total nat_cmp_total).trans a b d s t

-- nothing comes before itself
pub not_before_itself : (a : List ℕ) → ¬ IsBefore a a
not_before_itself a s =
    let e : Less ≡ Greater =
    sym s ∙ (order_by_total nat_cmp_total).antisymm a a ∙ ap ordering_reverse s in cc

-- of two different lists one comes before the other
pub before_or_after : (a b : List ℕ) → a ≢ b → IsBefore a b ⊎ IsBefore b a
before_or_after a b n = compared (order_by nat_cmp a b) refl
  where
    compared : (r : Ordering) → order_by nat_cmp a b ≡ r → IsBefore a b ⊎ IsBefore b a
    compared Less e = inl e
    compared Equal e = absurd (n (order_by_same nat_cmp_same a b e))
    compared Greater e =
        inr ((order_by_total nat_cmp_total).antisymm b a ∙ ap ordering_reverse e)

-- ---- rising lists
-- the members of a rising list are different
pub rising_differ : (vs : List (List ℕ)) → AllPairs IsBefore vs → AllPairs (λ a b. a ≢ b) vs
rising_differ vs r = λ i j d l k e. not_before_itself (slice_index_or vs j d)
    (subst (λ w. IsBefore w (slice_index_or vs j d)) e (r i j d l k))

-- the first of a rising list comes before the rest
pub first_before : (v : List ℕ) (vs : List (List ℕ)) → AllPairs IsBefore (v ∷ vs) → (w : List ℕ)
    → Contains vs w → IsBefore v w
first_before v vs r w (k, l, e) = subst (IsBefore v) e (r 0 (suc k) w (omega arith) (omega arith))

-- which rises too
pub rest_rising : (v : List ℕ) (vs : List (List ℕ)) → AllPairs IsBefore (v ∷ vs)
    → AllPairs IsBefore vs
rest_rising v vs r = λ i j d l k. r (suc i) (suc j) d (omega arith) (omega arith)

-- and a member is the first or among the rest
pub first_or_rest : (v : List ℕ) (vs : List (List ℕ)) (w : List ℕ) → Contains (v ∷ vs) w
    → (v ≡ w) ⊎ Contains vs w
first_or_rest v vs w (zero, l, e) = inl e
first_or_rest v vs w (suc k, l, e) = inr (k, omega arith, e)

contains_first : (v : List ℕ) (vs : List (List ℕ)) → Contains (v ∷ vs) v
contains_first v vs = (0, omega arith, refl)

contains_more : (v : List ℕ) (vs : List (List ℕ)) (w : List ℕ) → Contains vs w → Contains (v ∷ vs) w
contains_more v vs w (k, l, e) = (suc k, omega arith, e)

-- **two rising lists with the same members are equal**
pub rising_determined : (vs ws : List (List ℕ)) → AllPairs IsBefore vs → AllPairs IsBefore ws
    → ((v : List ℕ) → Contains vs v ↔ Contains ws v) → vs ≡ ws
rising_determined [] [] r s e = refl
rising_determined [] (w ∷ ws) r s e =
    let (k, l, _) = (e w).1 (contains_first w ws) in absurd (omega arith)
rising_determined (v ∷ vs) [] r s e =
    let (k, l, _) = (e v).0 (contains_first v vs) in absurd (omega arith)
rising_determined (v ∷ vs) (w ∷ ws) r s e = ap₂ ◌∷◌ same
    (rising_determined vs ws (rest_rising v vs r) (rest_rising w ws s)
    (λ u. (rest vs ws same r (e u).0, rest ws vs (sym same) s (e u).1)))
  where
    same : v ≡ w
    same = ⊎_elim (λ p. sym p)
        (λ c. ⊎_elim (λ p. p)
        (λ d. absurd (not_before_itself v
        (before_through v w v (first_before v vs r w d) (first_before w ws s v c))))
        (first_or_rest v vs w ((e w).1 (contains_first w ws))))
        (first_or_rest w ws v ((e v).0 (contains_first v vs)))

    rest : {a b u : List ℕ} (us ts : List (List ℕ)) → a ≡ b → AllPairs IsBefore (a ∷ us)
        → (Contains (a ∷ us) u → Contains (b ∷ ts) u) → Contains us u → Contains ts u
    rest {a} {b} {u} us ts p q f c = ⊎_elim
        (λ g. absurd (not_before_itself u
        (subst (λ z. IsBefore z u) (p ∙ g) (first_before a us q u c))))
        (λ g. g)
        (first_or_rest b ts u (f (contains_more a us u c)))

-- **a value set in between those before it and those after it leaves a rising list**
pub rising_insert : (vs : List (List ℕ)) (i : ℕ) (v : List ℕ) → AllPairs IsBefore vs
    → i ≤ length vs → ((k : ℕ) → k < i → IsBefore (slice_index_or vs k []) v)
    → ((k : ℕ) → i ≤ k → k < length vs → IsBefore v (slice_index_or vs k []))
    → AllPairs IsBefore (insert vs i v)
rising_insert vs i v r l below above = λ a b d m n. ⊎_elim
    (λ h. let e : slice_index_or (insert vs i v) b d ≡ slice_index_or vs b d =
    get_or-insert_below vs i v d b h l in
    apart (get_or-insert_below vs i v d a (omega arith) l) e
    (r a b d m (omega arith)))
    (λ h. ⊎_elim
    (λ s. let low : a < i = omega arith in
    apart (get_or-insert_below vs i v d a low l)
    (ap (λ k. slice_index_or (insert vs i v) k d) s ∙ get_or-insert_at vs i v d l)
    (subst (λ w. IsBefore w v) (get_or_default vs a [] d (omega arith)) (below a low)))
    (λ s. let high : i < b = omega arith in
    let short : b - 1 < length vs = omega (arith, length-insert vs i v l) in
    upper a b d m high short)
    (cases_eq b i))
    (cases_lt b i)
  where
    apart : {x y x' y' : List ℕ} → x ≡ x' → y ≡ y' → IsBefore x' y' → IsBefore x y
    apart {x} {y} {x'} {y'} e f q =
        subst (λ w. IsBefore w y) (sym e) (subst (IsBefore x') (sym f) q)

    above_at : (k : ℕ) (d : List ℕ) → i < k → slice_index_or (insert vs i v) k d
        ≡ slice_index_or vs (k - 1) d
    above_at k d h = ap (λ j. slice_index_or (insert vs i v) j d) (omega arith)
        ∙ get_or-insert_above vs i v d (k - 1) (omega arith) l

    upper : (a b : ℕ) (d : List ℕ) → a < b → i < b → b - 1 < length vs
        → IsBefore (slice_index_or (insert vs i v) a d) (slice_index_or (insert vs i v) b d)
    upper a b d m high short = ⊎_elim
        (λ h. apart (get_or-insert_below vs i v d a h l) (above_at b d high)
        (r a (b - 1) d (omega arith) short))
        (λ h. ⊎_elim
        (λ s. apart (ap (λ k. slice_index_or (insert vs i v) k d) s ∙ get_or-insert_at vs i v d l)
        (above_at b d high)
        (subst (IsBefore v) (get_or_default vs (b - 1) [] d short)
        (above (b - 1) (omega arith) short)))
        (λ s. apart (above_at a d (omega arith)) (above_at b d high)
        (r (a - 1) (b - 1) d (omega arith) short))
        (cases_eq a i))
        (cases_lt a i)

-- of those that there were and the value
pub insert_contains : (vs : List (List ℕ)) (i : ℕ) (v : List ℕ) → i ≤ length vs → (w : List ℕ)
    → Contains (insert vs i v) w ↔ ((w ≡ v) ⊎ Contains vs w)
insert_contains vs i v l w = (
  (λ (k, m, e). ⊎_elim
      (λ h. inr (
        k,
        omega (arith, length-insert vs i v l),
        sym (get_or-insert_below vs i v w k h l) ∙ e,
      ))
      (λ h. ⊎_elim
      (λ s. inl (sym e ∙ ap (λ j. slice_index_or (insert vs i v) j w) s
      ∙ get_or-insert_at vs i v w l))
      (λ s. let back : k ≡ k - 1 + 1 = omega arith in
      inr (
        k - 1,
        omega (arith, length-insert vs i v l),
        sym (get_or-insert_above vs i v w (k - 1) (omega arith) l)
            ∙ ap (λ j. slice_index_or (insert vs i v) j w) (sym back) ∙ e,
      ))
      (cases_eq k i))
      (cases_lt k i)),
  (λ c. ⊎_elim
      (λ s. (i, omega (arith, length-insert vs i v l), get_or-insert_at vs i v w l ∙ sym s))
      (λ (k, m, e). ⊎_elim
      (λ h. (k, omega (arith, length-insert vs i v l), get_or-insert_below vs i v w k h l ∙ e))
      (λ h. (
        k + 1,
        omega (arith, length-insert vs i v l),
        get_or-insert_above vs i v w k (omega arith) l ∙ e,
      ))
      (cases_lt k i)) c),
)

-- **a value can be added to a rising list**
pub rising_with : (vs : List (List ℕ)) → AllPairs IsBefore vs → (v : List ℕ)
    → (ws : List (List ℕ)) × AllPairs IsBefore ws
    × ((w : List ℕ) → Contains ws w ↔ ((w ≡ v) ⊎ Contains vs w))
rising_with [] r v = (
  v ∷ [],
  (λ i j d l k. absurd (omega arith)),
  (λ w. (
    (λ c. ⊎_elim (λ e. inl (sym e)) (λ (k, l, _). absurd (omega arith)) (first_or_rest v [] w c)),
    (λ c. ⊎_elim (λ e. (0, omega arith, sym e)) (λ (k, l, _). absurd (omega arith)) c),
  )),
)
rising_with (x ∷ vs) r v = ⊎_elim
    (λ e. (
      x ∷ vs,
      r,
      (λ w. (
        (λ c. inr c),
        (λ c. ⊎_elim (λ f. subst (Contains (x ∷ vs)) (sym (f ∙ e)) (contains_first x vs))
            (λ d. d) c),
      )),
    ))
    (λ n. ⊎_elim
    (λ before. (
      v ∷ x ∷ vs,
      AllPairs-cons IsBefore v (x ∷ vs)
          (λ k d l. through (slice_index_or (x ∷ vs) k d) before
          (first_or_rest x vs (slice_index_or (x ∷ vs) k d) (Contains-get_or (x ∷ vs) k d l)))
          r,
      (λ w. (
        (λ c. ⊎_elim (λ e. inl (sym e)) (λ d. inr d) (first_or_rest v (x ∷ vs) w c)),
        (λ c. ⊎_elim (λ e. (0, omega arith, sym e)) (λ d. contains_more v (x ∷ vs) w d) c),
      )),
    ))
    (λ after. let (ws, s, e) = rising_with vs (rest_rising x vs r) v in (
      x ∷ ws,
      AllPairs-cons IsBefore x ws
          (λ k d l. ⊎_elim (λ f. subst (IsBefore x) (sym f) after)
          (λ c. first_before x vs r (slice_index_or ws k d) c)
          ((e (slice_index_or ws k d)).0 (Contains-get_or ws k d l)))
          s,
      (λ w. (
        (λ c. ⊎_elim (λ f. inr (subst (Contains (x ∷ vs)) f (contains_first x vs)))
            (λ d. ⊎_elim (λ f. inl f) (λ g. inr (contains_more x vs w g)) ((e w).0 d))
            (first_or_rest x ws w c)),
        (λ c. ⊎_elim (λ f. contains_more x ws w ((e w).1 (inl f)))
            (λ d. ⊎_elim (λ f. subst (Contains (x ∷ ws)) f (contains_first x ws))
            (λ g. contains_more x ws w ((e w).1 (inr g))) (first_or_rest x vs w d)) c),
      )),
    ))
    (before_or_after v x n))
    (lists_equal_or_not cases_eq v x)
  where
    through : (w : List ℕ) → IsBefore v x → (x ≡ w) ⊎ Contains vs w → IsBefore v w
    through w before c = ⊎_elim (λ e. subst (IsBefore v) e before)
        (λ d. before_through v x w before (first_before x vs r w d)) c

-- the members of a list with a property that can be told, as a rising list
pub rising_of : (T : List ℕ → Type 0) → ((v : List ℕ) → T v ⊎ ¬ T v) → (xs : List (List ℕ))
    → (ws : List (List ℕ)) × AllPairs IsBefore ws
    × ((w : List ℕ) → Contains ws w ↔ (Contains xs w × T w))
rising_of T told [] = (
  [],
  (λ i j d l k. absurd (omega arith)),
  (λ w. ((λ (k, l, _). absurd (omega arith)), (λ ((k, l, _), _). absurd (omega arith)))),
)
rising_of T told (x ∷ xs) =
    let (ws, r, e) = rising_of T told xs in ⊎_elim
    (λ t. let (us, s, f) = rising_with ws r x in (
      us,
      s,
      (λ w. (
        (λ c. ⊎_elim (λ p. (
          subst (Contains (x ∷ xs)) (sym p) (contains_first x xs),
          subst T (sym p) t,
        ))
            (λ d. let g = (e w).0 d in (contains_more x xs w g.0, g.1)) ((f w).0 c)),
        (λ (c, u). (f w).1 (⊎_elim (λ p. inl (sym p)) (λ d. inr ((e w).1 (d, u)))
            (first_or_rest x xs w c))),
      )),
    ))
    (λ n. (
      ws,
      r,
      (λ w. (
        (λ c. let g = (e w).0 c in (contains_more x xs w g.0, g.1)),
        (λ (c, u). ⊎_elim (λ p. absurd (n (subst T (sym p) u))) (λ d. (e w).1 (d, u))
            (first_or_rest x xs w c)),
      )),
    ))
    (told x)

-- ---- the roots
module _ (F : Field) (g : List (List ℕ)) where
  -- **there is one list of the roots, least first**
  pub root_list_unique : (vs ws : List (List ℕ)) → IsRootList F g vs → IsRootList F g ws → vs ≡ ws
  root_list_unique vs ws R S = rising_determined vs ws R.rising S.rising
      (λ v. (
        (λ c. (S.exactly v).1 ((R.exactly v).0 c)),
        (λ c. (R.exactly v).1 ((S.exactly v).0 c)),
      ))

  -- **its first member is the least root**
  pub root_list_least : (v : List ℕ) (vs : List (List ℕ)) → IsRootList F g (v ∷ vs)
      → IsLeastRoot F g v
  root_list_least v vs R = record {
    root = (R.exactly v).0 (contains_first v vs);
    least = λ w r b. ⊎_elim (λ e. not_before_itself w (subst (IsBefore w) e b))
        (λ c. not_before_itself w (before_through w v w b (first_before v vs R.rising w c)))
        (first_or_rest v vs w ((R.exactly w).1 r));
  }

  -- a list with the roots as its members gives it by its order
  pub root_list_from : (vs ws : List (List ℕ)) → AllPairs IsBefore vs
      → ((v : List ℕ) → Contains vs v ↔ Contains ws v)
      → ((v : List ℕ) → Contains ws v ↔ IsRoot F g v) → IsRootList F g vs
  root_list_from vs ws r e f = record {
    rising = r;
    exactly = λ v. ((λ c. (f v).0 ((e v).0 c)), (λ q. (e v).1 ((f v).1 q)));
  }

-- polynomials with the same roots have the same lists
pub root_list_of_same : (F : Field) (g h vs : List (List ℕ))
    → ((v : List ℕ) → IsRoot F h v ↔ IsRoot F g v) → IsRootList F h vs → IsRootList F g vs
root_list_of_same F g h vs e R = record {
  rising = R.rising;
  exactly = λ v. ((λ c. (e v).0 ((R.exactly v).0 c)), (λ q. (R.exactly v).1 ((e v).1 q)));
}

-- **where g splits, the list is as long as its degree**
pub root_list_length : (F : Field) → IsFiniteField F → (g vs : List (List ℕ)) → Splits F g
    → IsRootList F g vs → length vs ≡ degree g
root_list_length F W g vs S R = split_count F W g S vs (rising_differ vs R.rising) R.exactly

-- **it isn't longer than the degree**
pub root_list_short : (F : Field) → IsFiniteField F → (g vs : List (List ℕ))
    → IsPolynomial (field_values F) g → g ≢ [] → IsRootList F g vs → length vs < length g
root_list_short F W g vs vg n R = roots_bounded F W g vg n vs (rising_differ vs R.rising)
    (λ k d l. (R.exactly (slice_index_or vs k d)).0 (Contains-get_or vs k d l))

-- **each polynomial has such a list**
pub root_list_exists : (F : Field) → IsFiniteField F → (g : List (List ℕ))
    → (vs : List (List ℕ)) × IsRootList F g vs
root_list_exists F W g =
    let (xs, _, valid, _, all) = all_values F W in
    let (ws, r, e) = rising_of
    (λ v. evaluate (field_values F).ops g v ≡ (field_values F).ops.zero)
    (λ v. lists_equal_or_not cases_eq _ _) xs in (
      ws,
      record {
        rising = r;
        exactly = λ v. (
          (λ c. let q = (e v).0 c in (All-contains (field_values F).Valid xs v valid q.0, q.1)),
          (λ q. (e v).1 (all v q.0, q.1)),
        );
      },
    )
