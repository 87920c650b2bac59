-- A word is one number.
use Rattle.std.proofs.Common.{◌≡◌, sym, ◌∙◌, arith}
use Rattle.std.proofs.lemmas.Fmt.{decimal_injective}
use Rattle.lat_audit.proofs.line_forms.number_below.Goals as goal

pub returns-else-number-from : goal.returns-else-number-from
returns-else-number-from c = λ n l e.
    let fits = c.ranges.bound.fits in
    let bound = c.from.ensures in
    let other = c.from-in-Some.ensures in
    let read = c.in-Some.ensures in
    let above = c.if-number-from.false in
    let same : c.in-Some.number ≡ n = decimal_injective c.in-Some.number n (omega (arith, bound, read.0)) (omega arith) (sym read.1 ∙ e) in
    omega (arith, same, above, other, l)
