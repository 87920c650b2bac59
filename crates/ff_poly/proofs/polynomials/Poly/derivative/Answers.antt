use Rattle.std.proofs.Common.{◌+◌, ◌*◌, slice_index, ◌%◌, ap, sym, ◌∙◌, arith}
use Rattle.alg_model.specs.Coefficients.{mod_ops}
use Rattle.alg_model.specs.Polynomials.{derivative}
use native.Mathlib.Nat.{mod-mod}
use Rattle.ff_poly.proofs.ListPlaces.{cut_at}
use Rattle.ff_poly.proofs.DerivativePlaces.{derivative_list, derivative_is, derivative_at, derivative_past}
use Rattle.ff_poly.proofs.polynomials.Poly.derivative.Goals as goal

pub returns-clause-derivative : goal.returns-clause-derivative
returns-clause-derivative c =
    let p = c.prime-p.result in
    let f = c.coefficients-coefficients.result.now in
    c.poly_of_places.ensures.coefficients (derivative_list p f)
    (cut_at p c.saturating_sub-len.result (derivative_list p f) c.derivative_places-places.result
    (λ k. ap (λ w. w % p) (c.derivative_places-places.ensures.places k) ∙ mod-mod ((k + 1) * slice_index f (k + 1)) p ∙ sym (derivative_at p f k))
    (λ k h. derivative_past p f k (omega arith)))
    ∙ sym (derivative_is p f)
    ∙ ap (derivative (mod_ops p)) c.coefficients-coefficients.ensures.value
    ∙ ap (λ n. derivative (mod_ops n) c.args.self.now.coefficients) c.prime-p.ensures.value
