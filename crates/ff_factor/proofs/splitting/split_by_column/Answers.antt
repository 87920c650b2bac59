use Rattle.std.proofs.Common.{◌≡◌, ◌<◌, ◌∷◌, length, ap₂, sym, ◌∙◌, subst}
use Rattle.alg_model.specs.Coefficients.{mod_ops, residues}
use Rattle.alg_model.specs.Polynomials.{trim}
use Rattle.alg_model.specs.Factors.{IsPolynomial}
use Rattle.alg_fields.specs.Fixed.{IsFixed}
use Rattle.ff_factor.proofs.CriterionOverResidues.{kernel_gives_fixed}
use Rattle.ff_factor.proofs.splitting.split_by_column.Goals as goal
use Rattle.ff_factor.proofs.splitting.split_by_column.Goals.{After-without_constant-fixed}

same : (c : After-without_constant-fixed) → trim (mod_ops c.args.f.now.prime) (0 ∷ c.args.column.now) ≡ c.without_constant-fixed.result.coefficients
same c = sym (c.without_constant-fixed.ensures.coefficients
    ∙ ap₂ (λ p xs. trim (mod_ops p) (0 ∷ xs)) c.prime.ensures.value c.numbers.ensures.value)

given : (c : After-without_constant-fixed)
    → let v = c.without_constant-fixed.result.coefficients in
    let p = c.args.f.now.prime in
    IsPolynomial (residues p) v × (1 < length v) × (length v < length c.args.f.now.coefficients) × IsFixed (residues p) p c.args.f.now.coefficients v
given c =
    let p = c.args.f.now.prime in
    let whole = c.prime.ensures.whole in
    subst (λ v. IsPolynomial (residues p) v × (1 < length v) × (length v < length c.args.f.now.coefficients) × IsFixed (residues p) p c.args.f.now.coefficients v)
    (same c)
    (kernel_gives_fixed p whole.characteristic c.args.f.now.coefficients c.args.column.now whole.polynomial c.requires.monic c.requires.not_constant c.requires.column)

pub split_by_fixed-requires-clause-not_constant : goal.split_by_fixed-requires-clause-not_constant
split_by_fixed-requires-clause-not_constant c = (given c.before).1

pub split_by_fixed-requires-clause-shorter : goal.split_by_fixed-requires-clause-shorter
split_by_fixed-requires-clause-shorter c = (given c.before).2

pub split_by_fixed-requires-clause-fixed : goal.split_by_fixed-requires-clause-fixed
split_by_fixed-requires-clause-fixed c = (given c.before).3
