use Rattle.std.proofs.Common.{◌≡◌, ◌≢◌, ◌-◌, ◌*◌, ◌/◌, ◌%◌, ◌<◌, sym, ap, subst, ◌∙◌, arith}
use Rattle.std.proofs.lemmas.Nat.{mod_below}
use Rattle.alg_model.specs.Coefficients.{IsCharacteristic}
use Rattle.alg_rings.proofs.Primes.{characteristic_is_prime, prime_not_divided, inversion_step}
use Rattle.ff_residues.proofs.primes.Prime.inv.Goals as goal

pub loop-rest-preserved : goal.loop-rest-preserved
loop-rest-preserved c =
    let p = c.number-p.result in
    let h = c.loop-rest.invariant in
    let product : c.mul-inverse.result ≡ (c.loop-rest.inverse * (p - p / c.loop-rest.rest)) % p =
    c.mul-inverse.ensures.product ∙ ap (λ w. (c.loop-rest.inverse * (p - p / c.loop-rest.rest)) % w) (sym c.number-p.ensures.value) in
    let prime : p % c.loop-rest.rest ≢ 0 =
    prime_not_divided p c.loop-rest.rest
    (characteristic_is_prime p (subst (λ w. IsCharacteristic w) (sym c.number-p.ensures.value) c.number-p.ensures.whole)) c.loop-rest-test.true h.below
    in
    let less : p % c.loop-rest.rest < c.loop-rest.rest = mod_below p c.loop-rest.rest h.not_zero in
    record {
      reached = ap (λ w. (c.args.a * w) % p) product ∙ inversion_step p c.args.a c.loop-rest.inverse c.loop-rest.rest h.not_zero h.below h.reached;
      not_zero = omega arith;
      below = omega arith;
      residue = omega arith;
    }
