-- Leaders of fields, one field after the other.
use Rattle.std.proofs.Common.{◌≡◌, ℕ, ◌+◌, ◌<◌, None, List, [], ◌∷◌, ◌++◌, length, sym, refl, ap, ◌∙◌, subst, ⊎_elim, arith, length-append}
use Rattle.std.specs.FinMap.{get}
use Rattle.std.proofs.lemmas.Bool.{cases_lt}
use Rattle.std.proofs.lemmas.List.{get_or_push, get_or_append_left}
use Rattle.alg_model.specs.Maps.{identity_map}
use Rattle.alg_model.specs.Lattices.{Lattice, field_at}
use Rattle.lat_audit.specs.PrivateRules.{HasIdentity, KeepsComposition}
use Rattle.lat_audit.specs.PrivateLeaders.{leader, IsIsomorphic, IsLed, AreLed, Heads}
use Rattle.lat_audit.proofs.RuleMaps.{none_stored}

-- where nothing is stored there is no composition
pub no_first : (L : Lattice) (i j k : ℕ) → get L.maps (i, j) ≡ None → KeepsComposition L i j k
no_first L i j k none m n M N = absurd (none_stored L i j m none M)

-- each field has an isomorphism into itself
pub own_isomorphism : (L : Lattice) (i : ℕ) → HasIdentity L i → IsIsomorphic L i i
own_isomorphism L i is = record { map = identity_map (field_at L.rows i); stored = is; degree = refl }

-- ---- one field more
module _ (L : Lattice) (leaders : List ℕ) (l : ℕ) where
  earlier : (k : ℕ) → k < length leaders → leader (leaders ++ l ∷ []) k ≡ leader leaders k
  earlier k below = get_or_append_left leaders (l ∷ []) 0 k below

  earlier_led : (k : ℕ) → k < length leaders → IsLed L leaders k → IsLed L (leaders ++ l ∷ []) k
  earlier_led k below is =
      let same = earlier k below in record {
        within =
            let more : length (leaders ++ l ∷ []) ≡ length leaders + 1 = length-append leaders (l ∷ []) in
            let w = is.within in
            subst (λ n. n < length (leaders ++ l ∷ [])) (sym same) (omega (arith, more, w));
        isomorphic = subst (λ n. IsIsomorphic L n k) (sym same) is.isomorphic;
        own = ap (leader (leaders ++ l ∷ [])) same ∙ earlier (leader leaders k) is.within ∙ is.own ∙ sym same;
      }

  -- the field behind them
  last_led : (i : ℕ) → length leaders ≡ i → HasIdentity L i → Heads L leaders i l → IsLed L (leaders ++ l ∷ []) i
  last_led i count identity heads =
      let here : leader (leaders ++ l ∷ []) i ≡ l = get_or_push leaders l 0 i count in
      let more : length (leaders ++ l ∷ []) ≡ length leaders + 1 = length-append leaders (l ∷ []) in record {
        within = subst (λ n. n < length (leaders ++ l ∷ [])) (sym here) (⊎_elim
            (λ e. omega (arith, more, count, e))
            (λ (below, own, is). omega (arith, more, below))
            heads);
        isomorphic = subst (λ n. IsIsomorphic L n i) (sym here) (⊎_elim
            (λ e. subst (λ n. IsIsomorphic L n i) (sym e) (own_isomorphism L i identity))
            (λ (below, own, is). is)
            heads);
        own = ap (leader (leaders ++ l ∷ [])) here ∙ ⊎_elim
            (λ e. ap (leader (leaders ++ l ∷ [])) e ∙ here)
            (λ (below, own, is). earlier l below ∙ own)
            heads ∙ sym here;
      }

  pub led_pushed : (i : ℕ) → length leaders ≡ i → HasIdentity L i → Heads L leaders i l → AreLed L leaders
      → AreLed L (leaders ++ l ∷ [])
  led_pushed i count identity heads led k below = ⊎_elim
      (λ before. earlier_led k before (led k before))
      (λ above.
      let more : length (leaders ++ l ∷ []) ≡ length leaders + 1 = length-append leaders (l ∷ []) in
      let same : i ≡ k = omega (arith, more, count, below, above) in
      subst (IsLed L (leaders ++ l ∷ [])) same (last_led i count identity heads))
      (cases_lt k (length leaders))
