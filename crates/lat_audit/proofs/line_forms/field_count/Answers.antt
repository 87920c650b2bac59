-- A line has one number.
use Rattle.std.proofs.Common.{◌≡◌, sym, ◌∙◌, arith}
use Rattle.std.specs.Prelude.{codes}
use Rattle.lat_audit.proofs.LineWords.{counted_once}
use Rattle.lat_audit.proofs.line_forms.field_count.Goals as goal

pub returns-then-count-primes : goal.returns-then-count-primes
returns-then-count-primes c = λ n low high e.
    let read = c.in-Some.ensures in
    let few = c.if-count-primes.true in
    let primes = c.primes.ensures in
    let same : c.in-Some.count ≡ n = counted_once (codes "fields") c.in-Some.count n (omega (arith, read.0)) (omega (arith, high)) (sym read.1 ∙ e) in
    omega (arith, same, low, few, primes)
