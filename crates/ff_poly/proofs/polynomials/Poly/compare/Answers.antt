use Rattle.std.proofs.Common.{length, sym, ap₂, ◌∙◌}
use Rattle.std.specs.Ordering.{nat_cmp}
use Rattle.alg_rings.proofs.PolynomialOrder.{order_by_lengths}
use Rattle.ff_poly.proofs.polynomials.Poly.compare.Goals as goal

pub returns-in_default : goal.returns-in_default
returns-in_default c =
    sym (order_by_lengths nat_cmp c.args.self.now.coefficients c.args.b.now.coefficients c.cmp.result
    (c.cmp.ensures ∙ ap₂ (λ xs ys. nat_cmp (length xs) (length ys)) c.coefficients-first.ensures.value c.coefficients-second.ensures.value)
    c.in_default.not-Equal)
