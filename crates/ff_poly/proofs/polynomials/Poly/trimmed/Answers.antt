use Rattle.std.proofs.Common.{length, sym, ap, ◌∙◌, subst, arith, length-take}
use Rattle.alg_model.specs.Coefficients.{residues}
use Rattle.alg_model.specs.Factors.{IsPolynomial}
use Rattle.alg_rings.proofs.Residues.{residues_ring}
use Rattle.alg_rings.proofs.ResidueFields.{residues_propositional}
use Rattle.alg_rings.proofs.CarrierPolynomials.{trim_polynomial}
use Rattle.ff_poly.specs.Polynomial.{IsPoly}
use Rattle.ff_poly.proofs.polynomials.Poly.trimmed.Goals as goal

fixed_poly : (c : goal.After-fixed) → IsPoly (record { prime = c.args.p; coefficients = c.fixed.result.items })
fixed_poly c =
    let p = c.args.p in
    let xs = c.args.c.now in
    record {
      characteristic = c.number-number.ensures.whole;
      polynomial = subst (IsPolynomial (residues p)) (sym (c.fixed.ensures ∙ c.trimmed_len.ensures.trimmed p)) (trim_polynomial (residues_propositional p) (residues_ring p (omega arith)) xs c.requires.residues);
      fits = omega (arith, ap length c.fixed.ensures, length-take c.trimmed_len.result xs);
    }

pub invariant_of-result : goal.invariant_of-result
invariant_of-result c = fixed_poly c

pub returns-clause-whole : goal.returns-clause-whole
returns-clause-whole c = fixed_poly c
