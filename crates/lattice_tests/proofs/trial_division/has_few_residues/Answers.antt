-- Once a power is above the limit, so is the last one.
use Rattle.std.proofs.Common.{◌≡◌, ◌*◌, ◌+◌, ◌^◌, ◌∙◌, ap, arith, add-one}
use Rattle.std.proofs.Math.Nat.{pow-suc}
use Rattle.lattice_tests.proofs.NumbersOfPolynomials.{power_above}
use Rattle.lattice_tests.proofs.trial_division.has_few_residues.Goals as goal

pub returns-then-count-gt-TRIAL_LIMIT : goal.returns-then-count-gt-TRIAL_LIMIT
returns-then-count-gt-TRIAL_LIMIT c =
    let base : c.from-base.result ≡ c.args.p = c.from-base.ensures ∙ c.number.ensures.value in
    let next : c.loop-place.count * c.from-base.result ≡ c.from-base.result ^ (c.loop-place._place + 1) =
    rw (add-one, pow-suc) (ap (λ x. x * c.from-base.result) c.loop-place.invariant.0) in
    let same : c.from-base.result ^ (c.loop-place._place + 1) ≡ c.args.p ^ (c.loop-place._place + 1) = ap (λ b. b ^ (c.loop-place._place + 1)) base in
    (λ t. absurd (cc), λ h. absurd (power_above c.args.p (c.loop-place._place + 1) c.args.degree 4096 (omega arith) (omega arith) (omega arith) h))
