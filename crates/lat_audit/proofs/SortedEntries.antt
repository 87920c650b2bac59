-- Entries in the order of their keys, and those of them whose keys pass a test.
use Rattle.std.proofs.Common.{◌≡◌, Bool, true, false, cond, List, [], ◌∷◌, ◌++◌, refl, sym, ap, ap₂, ◌∙◌, Option, Some, is_some, Ordering, Less, Equal, Greater, ⊎_elim}
use Rattle.std.specs.Cmp.{IsTotalOrder}
use Rattle.std.specs.Ordering.{eq_by_cmp, is_eq, is_lt}
use Rattle.std.specs.FinMap.{find, is_sorted, IsAntisymmetric}
use Rattle.std.specs.FinMap.Entries.{below_all, where_key}
use Rattle.std.proofs.lemmas.Bool.{cases_Bool, and_parts}
use Rattle.std.proofs.lemmas.Cmp.{tied_itself}
use Rattle.lat_audit.specs.PrivateDumps.{found_at}

pub is_less : (r : Ordering) → is_lt r ≡ true → r ≡ Less
is_less Less e = refl
is_less Equal e = cc
is_less Greater e = cc

pub is_equal : (r : Ordering) → is_eq r ≡ true → r ≡ Equal
is_equal Less e = cc
is_equal Equal e = refl
is_equal Greater e = cc

module _ {K X : Type 0} (R : K → K → Ordering) where
  -- no key above x passes
  pub none_above : (p : K → Bool) (x : K) (es : List (K × X)) → below_all R x es ≡ true
      → ((k : K) → R x k ≡ Less → p k ≡ false) → where_key R p es ≡ []
  none_above p x [] h none = refl
  none_above p x (e ∷ es) h none =
      let (first, rest) = and_parts (is_lt (R x e.0)) (below_all R x es) h in
      ap (λ b. cond b (e ∷ where_key R p es) (where_key R p es)) (none e.0 (is_less (R x e.0) first))
      ∙ none_above p x es rest none

  -- the keys that pass r pass p or q, and none that passes q is before one that passes p
  pub parts : (p q r : K → Bool)
      → ((a b : K) → R a b ≡ Less → q a ≡ true → p b ≡ false)
      → ((k : K) → p k ≡ true → (q k ≡ false) × (r k ≡ true))
      → ((k : K) → p k ≡ false → r k ≡ q k)
      → (es : List (K × X)) → is_sorted R es ≡ true
      → where_key R r es ≡ where_key R p es ++ where_key R q es
  parts p q r order passes fails [] h = refl
  parts p q r order passes fails (e ∷ es) h =
      let (above, rest) = and_parts (below_all R e.0 es) (is_sorted R es) h in
      let more = parts p q r order passes fails es rest in
      ⊎_elim
      (λ yes. let (other, all) = passes e.0 yes in
      ap (λ b. cond b (e ∷ where_key R r es) (where_key R r es)) all ∙ ap (λ w. e ∷ w) more
      ∙ sym (both true false yes other))
      (λ fail. ⊎_elim
      (λ yes. let none : where_key R p es ≡ [] = none_above p e.0 es above (λ k l. order e.0 k l yes) in
      ap (λ b. cond b (e ∷ where_key R r es) (where_key R r es)) (fails e.0 fail ∙ yes)
      ∙ ap (λ w. e ∷ w) (more ∙ ap (λ w. w ++ where_key R q es) none)
      ∙ sym (both false true fail yes ∙ ap (λ w. w ++ (e ∷ where_key R q es)) none))
      (λ neither. ap (λ b. cond b (e ∷ where_key R r es) (where_key R r es)) (fails e.0 fail ∙ neither) ∙ more
      ∙ sym (both false false fail neither))
      (cases_Bool (q e.0)))
      (cases_Bool (p e.0))
    where
      both : (a b : Bool) → p e.0 ≡ a → q e.0 ≡ b
          → where_key R p (e ∷ es) ++ where_key R q (e ∷ es)
          ≡ cond a (e ∷ where_key R p es) (where_key R p es) ++ cond b (e ∷ where_key R q es) (where_key R q es)
      both a b ep eq = ap₂ (λ x y. cond x (e ∷ where_key R p es) (where_key R p es) ++ cond y (e ∷ where_key R q es) (where_key R q es)) ep eq

  -- tests that agree on the keys of the list
  pub agree : IsTotalOrder R → (p q : K → Bool) (es : List (K × X))
      → ((k : K) → is_some (find R k es) ≡ true → p k ≡ q k)
      → where_key R p es ≡ where_key R q es
  agree T p q [] h = refl
  agree T p q (e ∷ es) h =
      ap₂ (λ b w. cond b (e ∷ w) w)
      (h e.0 (ap (λ r. is_some (cond (is_eq r) (Some e.1) (find R e.0 es))) (tied_itself T e.0)))
      (agree T p q es (λ k found. h k (later (eq_by_cmp R k e.0) (find R k es) found)))
    where
      later : (b : Bool) (o : Option X) → is_some o ≡ true → is_some (cond b (Some e.1) o) ≡ true
      later true o i = refl
      later false o i = i

  -- a test that all keys of the list pass
  pub all_pass : IsTotalOrder R → (p : K → Bool) (es : List (K × X))
      → ((k : K) → is_some (find R k es) ≡ true → p k ≡ true) → where_key R p es ≡ es
  all_pass T p es h = agree T p (λ k. true) es h ∙ everything es
    where
      everything : (es : List (K × X)) → where_key R (λ k. true) es ≡ es
      everything [] = refl
      everything (e ∷ es) = ap (λ w. e ∷ w) (everything es)

  -- a test that none passes
  pub no_pass : (p : K → Bool) (es : List (K × X)) → ((k : K) → p k ≡ false) → where_key R p es ≡ []
  no_pass p [] h = refl
  no_pass p (e ∷ es) h =
      ap (λ b. cond b (e ∷ where_key R p es) (where_key R p es)) (h e.0) ∙ no_pass p es h

  -- the entry of one key
  pub one_key : IsTotalOrder R → IsAntisymmetric R → (k : K) (es : List (K × X))
      → is_sorted R es ≡ true → where_key R (eq_by_cmp R k) es ≡ found_at k (find R k es)
  one_key T A k [] h = refl
  one_key T A k (e ∷ es) h = ⊎_elim
      (λ yes. let same : k ≡ e.0 = A k e.0 (is_equal (R k e.0) yes) in
      ap (λ b. cond b (e ∷ where_key R (eq_by_cmp R k) es) (where_key R (eq_by_cmp R k) es)) yes
      ∙ ap (λ w. e ∷ w) (none_above (eq_by_cmp R k) e.0 es above (λ x l. ap (λ a. eq_by_cmp R a x) same ∙ ap is_eq l))
      ∙ ap (λ a. found_at a (Some e.1)) (sym same)
      ∙ ap (λ b. found_at k (cond b (Some e.1) (find R k es))) (sym yes))
      (λ apart. ap (λ b. cond b (e ∷ where_key R (eq_by_cmp R k) es) (where_key R (eq_by_cmp R k) es)) apart
      ∙ one_key T A k es (and_parts (below_all R e.0 es) (is_sorted R es) h).1
      ∙ ap (λ b. found_at k (cond b (Some e.1) (find R k es))) (sym apart))
      (cases_Bool (eq_by_cmp R k e.0))
    where
      above : below_all R e.0 es ≡ true
      above = (and_parts (below_all R e.0 es) (is_sorted R es) h).0
