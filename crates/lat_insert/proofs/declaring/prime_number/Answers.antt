-- The characteristic is found.
use Rattle.std.proofs.Common.{◌<◌, length, slice_index_or, sym, ap, ◌∙◌, subst, arith}
use Rattle.std.proofs.lemmas.Grind.{get_or_default_zero}
use Rattle.lat_insert.proofs.declaring.prime_number.Goals as goal

pub unreachable-requires : goal.unreachable-requires
unreachable-requires c =
    let (k, h, e) = c.requires in
    let primes = c.characteristics-primes.ensures in
    let below : k < length c.characteristics-primes.result.now = subst (λ ps. k < length ps) (sym primes) h in
    c.loop-number.invariant k (omega (arith, below, c.loop-number-test.false))
    (sym (get_or_default_zero c.characteristics-primes.result.now k c.args.p below) ∙ ap (λ ps. slice_index_or ps k c.args.p) primes
    ∙ e ∙ sym c.number.ensures.value ∙ sym c.from-p.ensures)
