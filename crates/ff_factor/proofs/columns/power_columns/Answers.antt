use Rattle.std.proofs.Common.{◌≡◌, ℕ, suc, ◌+◌, ◌-◌, ◌<◌, List, [], ◌∷◌, ◌++◌, length, replicate, All, refl, ap, ap₂, sym, ◌∙◌, arith, subst}
use Rattle.std.specs.List.{refill}
use Rattle.std.proofs.lemmas.List.{length-replicate}
use Rattle.std.proofs.lemmas.List.FromFn.{map-range_with_len_more}
use Rattle.alg_model.specs.Coefficients.{mod_ops}
use Rattle.alg_model.specs.Polynomials.{poly_power}
use Rattle.alg_model.specs.Values.{degree, remainder, times_x}
use Rattle.ff_factor.specs.PrivateSplitting.{ArePlacesOfPower}
use Rattle.ff_factor.proofs.PowersOfVariable.{places_of_one, places_of_next}
use Rattle.ff_factor.proofs.GrowingLists.{refill_whole}
use Rattle.ff_factor.proofs.columns.power_columns.Goals as goal

pub loop-j-init : goal.loop-j-init
loop-j-init c =
    let f = c.args.f.now in
    let d = degree f.coefficients - 1 in
    let xs = c.places_of_one-places.result.items in
    let ws = c.multiply_by_power.new.places in
    let n : length c.coefficients.result.now - 1 - 1 ≡ d = ap (λ xs. length xs - 1 - 1) c.coefficients.ensures.value in
    let one : xs ≡ 1 ∷ replicate d 0 = c.places_of_one-places.ensures ∙ ap (λ m. 1 ∷ replicate m 0) n in
    let start : c.as_mut_slice.result.now ≡ 1 ∷ replicate d 0 = c.as_mut_slice.ensures.value ∙ one in
    let long : length (1 ∷ replicate d 0) ≡ degree f.coefficients = omega (arith, length-replicate {A = ℕ} d 0, c.requires.not_constant) in
    let same : refill (length xs) xs ws ≡ ws = refill_whole xs ws (c.multiply_by_power.ensures.places ∙ ap length c.as_mut_slice.ensures.value) in
    let first : ArePlacesOfPower f 0 c.as_mut_slice.result.now = subst (ArePlacesOfPower f 0) (sym start)
    (places_of_one f c.prime-p.ensures.whole c.requires.monic c.requires.not_constant) in
    let sum : 0 + f.prime ≡ f.prime + 0 = omega arith in
    record {
      places = ap length same ∙ c.multiply_by_power.ensures.places ∙ ap length start ∙ long;
      residues = subst (λ ys. All (λ x. x < f.prime) ys) (sym same) c.multiply_by_power.ensures.residues;
      last = subst (ArePlacesOfPower f (f.prime + 0)) (sym same)
          (subst (λ e. ArePlacesOfPower f e ws) sum (c.multiply_by_power.ensures.power 0 first));
      counted = ap length c.new-columns.ensures;
      columns = c.new-columns.ensures;
    }

pub loop-j-preserved : goal.loop-j-preserved
loop-j-preserved c =
    let f = c.args.f.now in
    let k = c.loop-j._j in
    let p = c.prime-p.result in
    let xs = c.loop-j.places.items in
    let ws = c.multiply_by_variable.new.places in
    let e = c.multiply_by_variable.ensures in
    let value = c.as_mut_slice-in-loop-j.ensures.value in
    let power : ℕ → List ℕ = λ j. remainder (mod_ops f.prime) f.coefficients (poly_power (mod_ops f.prime) (0 ∷ 1 ∷ []) j) in
    let same : refill (length xs) xs ws ≡ ws = refill_whole xs ws (e.places ∙ ap length value) in
    let product : ws ≡ times_x (mod_ops f.prime) f.coefficients xs =
    subst (λ q. ws ≡ times_x (mod_ops q) f.coefficients xs) c.prime-p.ensures.value
    (subst (λ ys. ws ≡ times_x (mod_ops p) f.coefficients ys) value
    (subst (λ g. ws ≡ times_x (mod_ops p) g c.as_mut_slice-in-loop-j.result.now) c.coefficients-in-loop-j.ensures.value e.product)) in
    let element : c.of_slice.result ≡ power (f.prime + k) =
    c.of_slice.ensures ∙ c.as_slice.ensures.value ∙ c.loop-j.invariant.last in
    let more : suc (f.prime + k) ≡ f.prime + (k + 1) = omega arith in
    record {
      places = ap length same ∙ e.places ∙ ap length value ∙ c.loop-j.invariant.places;
      residues = subst (λ ys. All (λ x. x < f.prime) ys) (sym same) (subst (λ q. All (λ x. x < q) ws) c.prime-p.ensures.value e.residues);
      last = subst (ArePlacesOfPower f (f.prime + (k + 1))) (sym same)
          (subst (λ m. ArePlacesOfPower f m ws) more
          (places_of_next f c.prime-p.ensures.whole c.requires.monic c.requires.not_constant (f.prime + k) xs ws c.loop-j.invariant.last product));
      counted = omega (arith, c.push.ensures.len, c.loop-j.invariant.counted);
      columns = c.push.ensures.items ∙ ap₂ (λ ys y. ys ++ y ∷ []) c.loop-j.invariant.columns element
          ∙ sym (map-range_with_len_more power f.prime k (f.prime + k) refl);
    }
