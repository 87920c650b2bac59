use Rattle.std.proofs.Common.{◌∙◌}
use Rattle.alg_rings.proofs.ResidueFields.{residues_field, residues_propositional}
use Rattle.alg_rings.proofs.CarrierPolynomials.{poly_product_comm}
use Rattle.ff_factor.proofs.verdicts.reducible.Goals as goal

pub returns : goal.returns
returns c =
    let p = c.args.f.now.prime in
    let l = c.requires in
    let k = c.cofactor-cofactor.ensures in (
      l.prime,
      k.prime,
      l.least,
      poly_product_comm (residues_propositional p) (residues_field p k.characteristic).ring c.args.factor.coefficients
          c.cofactor-cofactor.result.coefficients l.least.factor.polynomial.0 k.cofactor.polynomial.0 ∙ k.cofactor.product,
    )
