use Rattle.std.proofs.Common.{◌≡◌, suc, ◌+◌, ◌<◌, All, arith, ◌∙◌, subst}
use Rattle.alg_model.specs.Coefficients.{mod_ops}
use Rattle.alg_model.specs.Values.{times_x}
use Rattle.ff_factor.specs.PrivateSplitting.{ArePlacesOfPower}
use Rattle.ff_factor.proofs.PowersOfVariable.{places_of_next}
use Rattle.ff_factor.proofs.columns.multiply_by_power.Goals as goal

pub loop-k-preserved : goal.loop-k-preserved
loop-k-preserved c =
    let f = c.args.f.now in
    let k = c.loop-k._k in
    let xs = c.loop-k.places in
    let ys = c.multiply_by_variable.new.places in
    let e = c.multiply_by_variable.ensures in
    let product : ys ≡ times_x (mod_ops f.prime) f.coefficients xs = subst (λ p. ys ≡ times_x (mod_ops p) f.coefficients xs) c.prime-p.ensures.value
    (subst (λ g. ys ≡ times_x (mod_ops c.prime-p.result) g xs) c.coefficients.ensures.value e.product) in
    record {
      len = e.places ∙ c.loop-k.invariant.len;
      residues = subst (λ p. All (λ x. x < p) ys) c.prime-p.ensures.value e.residues;
      power = λ n h. let more : suc (n + k) ≡ n + (k + 1) = omega arith in
          subst (λ m. ArePlacesOfPower f m ys) more
          (places_of_next f c.prime-p.ensures.whole c.requires.monic c.requires.not_constant (n + k) xs ys (c.loop-k.invariant.power n h) product);
    }
