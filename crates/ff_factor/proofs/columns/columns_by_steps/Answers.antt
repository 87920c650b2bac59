use Rattle.std.proofs.Common.{◌≡◌, ℕ, suc, ◌+◌, ◌-◌, ◌*◌, ◌<◌, ◌≤◌, [], ◌∷◌, ◌++◌, length, replicate, map, All, ap, ap₂, sym, ◌∙◌, arith, subst, zero-mul}
use Rattle.std.specs.List.{range_with_len, refill}
use Rattle.std.proofs.lemmas.List.{length-replicate}
use Rattle.std.proofs.lemmas.List.Elements.{All-cons, All-replicate}
use Rattle.std.proofs.lemmas.List.FromFn.{map-range_with_len_more}
use Rattle.alg_model.specs.Coefficients.{mod_ops}
use Rattle.alg_model.specs.Values.{degree}
use Rattle.alg_rings.proofs.ResidueFields.{two_le_characteristic}
use Rattle.ff_factor.specs.Certificates.{berlekamp_column}
use Rattle.ff_factor.specs.PrivateSplitting.{ArePlacesOfPower}
use Rattle.ff_factor.proofs.PowersOfVariable.{places_of_one, power_from_remainder}
use Rattle.ff_factor.proofs.GrowingLists.{refill_whole}
use Rattle.ff_factor.proofs.columns.columns_by_steps.Goals as goal

pub loop-k-init : goal.loop-k-init
loop-k-init c =
    let f = c.args.f.now in
    let d = degree f.coefficients - 1 in
    let n : length c.coefficients.result.now - 1 - 1 ≡ d = ap (λ xs. length xs - 1 - 1) c.coefficients.ensures.value in
    let one : c.places_of_one-places.result.items ≡ 1 ∷ replicate d 0 = c.places_of_one-places.ensures ∙ ap (λ m. 1 ∷ replicate m 0) n in
    let above : 1 < f.prime = two_le_characteristic f.prime c.prime-prime.ensures.whole.characteristic in
    record {
      places = omega (arith, ap length one, length-replicate {A = ℕ} d 0, c.requires.not_constant);
      residues = subst (λ ys. All (λ x. x < f.prime) ys) (sym one)
          (All-cons (λ x. x < f.prime) 1 (replicate d 0) above (All-replicate (λ x. x < f.prime) d 0 (omega arith)));
      last = subst (ArePlacesOfPower f (0 * f.prime)) (sym one)
          (subst (λ e. ArePlacesOfPower f e (1 ∷ replicate d 0)) (sym (zero-mul f.prime))
          (places_of_one f c.prime-prime.ensures.whole c.requires.monic c.requires.not_constant));
      counted = ap length c.new-columns.ensures;
      columns = c.new-columns.ensures;
    }

pub gap_column-requires-clause-power : goal.gap_column-requires-clause-power
gap_column-requires-clause-power c =
    let f = c.args.f.now in
    let k = c.loop-k.k in
    let xs = c.loop-k.places.items in
    let ws = c.multiply_by_power.new.places in
    let value = c.as_mut_slice.ensures.value in
    let first : 1 ≤ k = c.loop-k.auto.k in
    let more : (k - 1) * f.prime + f.prime ≡ suc (k - 1) * f.prime = omega arith in
    let at : suc (k - 1) ≡ k = omega arith in
    let same : refill (length xs) xs ws ≡ ws = refill_whole xs ws (c.multiply_by_power.ensures.places ∙ ap length value) in
    let next : ArePlacesOfPower f (k * f.prime) ws = subst (λ e. ArePlacesOfPower f e ws) (more ∙ ap (λ j. j * f.prime) at)
    (c.multiply_by_power.ensures.power ((k - 1) * f.prime) (subst (ArePlacesOfPower f ((k - 1) * f.prime)) (sym value) c.loop-k.invariant.last)) in
    power_from_remainder f c.prime-prime.ensures.whole c.requires.monic c.requires.not_constant k c.as_slice.result.now
    (c.as_slice.ensures.value ∙ same ∙ next)

pub loop-k-preserved : goal.loop-k-preserved
loop-k-preserved c =
    let f = c.args.f.now in
    let column = berlekamp_column (mod_ops f.prime) f.prime f.coefficients in
    let k = c.loop-k.k in
    let xs = c.loop-k.places.items in
    let ws = c.multiply_by_power.new.places in
    let value = c.as_mut_slice.ensures.value in
    let first : 1 ≤ k = c.loop-k.auto.k in
    let more : k - 1 + 1 ≡ k + 1 - 1 = omega arith in
    let at : 1 + (k - 1) ≡ k = omega arith in
    let times : (k - 1) * f.prime + f.prime ≡ suc (k - 1) * f.prime = omega arith in
    let now : suc (k - 1) ≡ k + 1 - 1 = omega arith in
    let same : refill (length xs) xs ws ≡ ws = refill_whole xs ws (c.multiply_by_power.ensures.places ∙ ap length value) in
    record {
      places = ap length same ∙ c.multiply_by_power.ensures.places ∙ ap length value ∙ c.loop-k.invariant.places;
      residues = subst (λ ys. All (λ x. x < f.prime) ys) (sym same) c.multiply_by_power.ensures.residues;
      last = subst (ArePlacesOfPower f ((k + 1 - 1) * f.prime)) (sym same)
          (subst (λ e. ArePlacesOfPower f e ws) (times ∙ ap (λ j. j * f.prime) now)
          (c.multiply_by_power.ensures.power ((k - 1) * f.prime) (subst (ArePlacesOfPower f ((k - 1) * f.prime)) (sym value) c.loop-k.invariant.last)));
      counted = omega (arith, c.push.ensures.len, c.loop-k.invariant.counted);
      columns =
          c.push.ensures.items ∙ ap₂ (λ ys x. ys ++ x ∷ []) c.loop-k.invariant.columns c.gap_column.ensures.value
          ∙ sym (map-range_with_len_more column 1 (k - 1) k at) ∙ ap (λ j. map column (range_with_len 1 j)) more;
    }
