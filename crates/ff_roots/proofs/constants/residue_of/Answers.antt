use Rattle.std.proofs.Common.{◌<◌, length, ap, ◌∙◌, subst}
use Rattle.ff_roots.proofs.ConstantValues.{constant_from_zeros}
use Rattle.ff_roots.proofs.constants.residue_of.Goals as goal

pub returns-then-are_zeros-clause-value : goal.returns-then-are_zeros-clause-value
returns-then-are_zeros-clause-value c =
    let F = c.args.field.now in
    let same = c.digits-digits.ensures.value in
    constant_from_zeros F c.digits-digits.result.now (ap length same ∙ c.requires.1)
    (subst (λ n. 0 < n) c.degree-degree.ensures.value c.degree-degree.ensures.positive)
    (c.are_zeros.ensures.0 c.if-are_zeros.true) ∙ same
