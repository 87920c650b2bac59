use Rattle.std.proofs.Common.{sym, ◌∙◌, subst}
use Rattle.alg_model.specs.Factors.{IsPolynomial}
use Rattle.alg_model.specs.Maps.{field_values}
use Rattle.alg_rings.proofs.CarrierPolynomials.{trim_polynomial}
use Rattle.ff_polyx.proofs.FieldCarriers.{propositional, ring}
use Rattle.ff_polyx.proofs.polynomials.PolyX.of_values.Goals as goal

pub returns-clause-valid : goal.returns-clause-valid
returns-clause-valid c =
    let K = c.args.field.now in
    subst (IsPolynomial (field_values K)) (sym (c.of.ensures ∙ c.trimmed_len.ensures.trimmed))
    (trim_polynomial (propositional K) (ring K c.prime-prime.ensures.whole) c.args.c.now
    c.requires.values)
