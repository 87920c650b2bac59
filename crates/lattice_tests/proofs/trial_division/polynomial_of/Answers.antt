use Rattle.std.proofs.Common.{◌∙◌, ap}
use Rattle.lattice_tests.specs.Numbering.{number_of}
use Rattle.lattice_tests.proofs.NumbersOfPolynomials.{number_of-trim}
use Rattle.lattice_tests.proofs.trial_division.polynomial_of.Goals as goal

pub returns-clause-value : goal.returns-clause-value
returns-clause-value c = ap (number_of c.args.p) c.trimmed.ensures.coefficients
    ∙ number_of-trim c.args.p c.as_slice.result.now ∙ ap (number_of c.args.p) c.as_slice.ensures.value ∙ c.digits_of.ensures.value
