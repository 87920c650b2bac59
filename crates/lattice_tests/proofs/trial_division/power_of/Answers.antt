-- No power before the last one is above it.
use Rattle.std.proofs.Common.{◌≡◌, ◌^◌, ◌*◌, ◌+◌, ◌<◌, ◌≤◌, arith, ap, ◌∙◌, sym, add-one}
use Rattle.std.proofs.Math.Nat.{pow-suc, pow-le-pow_right}
use Rattle.lattice_tests.proofs.trial_division.power_of.Goals as goal

pub overflow_mul-power : goal.overflow_mul-power
overflow_mul-power c =
    let base : c.from-base.result ≡ c.args.p = c.from-base.ensures ∙ c.number.ensures.value in
    let positive : 0 < c.from-base.result = omega arith in
    let fits : c.from-base.result ^ (c.loop-place._place + 1) ≤ c.from-base.result ^ c.args.degree = pow-le-pow_right positive (omega arith) in
    let whole : c.from-base.result ^ c.args.degree ≡ c.args.p ^ c.args.degree = ap (λ b. b ^ c.args.degree) base in
    let next : c.from-base.result ^ (c.loop-place._place + 1) ≡ c.loop-place.power * c.from-base.result =
    rw (add-one, pow-suc) (ap (λ x. x * c.from-base.result) (sym c.loop-place.invariant)) in
    omega arith
