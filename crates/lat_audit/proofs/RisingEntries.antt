-- The finite map of entries whose keys rise has these entries.
use Rattle.std.proofs.Common.{◌≡◌, suc, true, false, Bool, List, [], ◌∷◌, sym, ap, ◌∙◌, subst, Ordering, Less, arith}
use Rattle.std.specs.Prelude.{◌&&◌, All, AllPairs}
use Rattle.std.specs.Cmp.{IsTotalOrder}
use Rattle.std.specs.Ordering.{is_lt}
use Rattle.std.specs.FinMap.{entries, from_sorted, from_entries, get-from_entries, get-from_sorted, entries-from_sorted, is_sorted, same_map, IsAntisymmetric}
use Rattle.std.specs.FinMap.Entries.{below_all}
use Rattle.std.proofs.Math.Dec.{T}

both : (a b : Bool) → T a → T b → T (a && b)
both true b p q = q
both false b p q = p

less_told : (r : Ordering) → r ≡ Less → T (is_lt r)
less_told r e = subst (λ x. T (is_lt x)) (sym e) tt

module _ {K X : Type 0} (R : K → K → Ordering) where
  below : (x : K) (es : List (K × X)) → All (λ (e : K × X). R x e.0 ≡ Less) es → T (below_all R x es)
  below x [] all = tt
  below x (e ∷ es) all = both (is_lt (R x e.0)) (below_all R x es)
      (less_told (R x e.0) (all 0 e (omega arith)))
      (below x es (λ k d l. all (suc k) d (omega (arith, l))))

  rising_sorted : (es : List (K × X)) → AllPairs (λ (a b : K × X). R a.0 b.0 ≡ Less) es → T (is_sorted R es)
  rising_sorted [] all = tt
  rising_sorted (e ∷ es) all = both (below_all R e.0 es) (is_sorted R es)
      (below e.0 es (λ k d l. all 0 (suc k) d (omega arith) (omega (arith, l))))
      (rising_sorted es (λ i j d l m. all (suc i) (suc j) d (omega (arith, l)) (omega (arith, m))))

pub entries_kept : {K X : Type 0} {R : K → K → Ordering} → IsTotalOrder R → IsAntisymmetric R
    → (es : List (K × X)) → AllPairs (λ (a b : K × X). R a.0 b.0 ≡ Less) es
    → entries (from_entries {R = R} es) ≡ es
entries_kept {R = R} T A es rising =
    let sorted = rising_sorted R es rising in
    ap entries (same_map T A (from_entries es) (from_sorted es)
    (λ q. get-from_entries T es q ∙ sym (get-from_sorted R es q sorted)))
    ∙ entries-from_sorted R es sorted
