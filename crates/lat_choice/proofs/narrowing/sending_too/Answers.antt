use Rattle.std.proofs.Common.{◌≡◌, length, ap, sym, ◌∙◌, subst}
use Rattle.std.specs.Option.{option_copied}
use Rattle.alg_model.specs.Factors.{IsPolynomial, IsGreatestCommonDivisor}
use Rattle.alg_model.specs.Maps.{field_values}
use Rattle.alg_model.specs.Lattices.{Row, field_at}
use Rattle.alg_choices.specs.Fitting.{Narrows, AreGiven}
use Rattle.alg_choices.specs.Restrictions.{prescription}
use Rattle.lat_core.specs.Step.{prescribed_values}
use Rattle.lat_choice.specs.PrivateNeeded.{IsNeeded}
use Rattle.lat_choice.proofs.Agreeing.{narrows_sent}
use Rattle.lat_choice.proofs.narrowing.sending_too.Goals as goal

pub returns-in-Some-clause-narrows : goal.returns-in-Some-clause-narrows
returns-in-Some-clause-narrows c =
    let L = c.args.lattice.now in
    let E = c.args.from in
    let F = c.args.into in
    let pair = c.in-Some.pair.now in
    let polynomial = c.prescription-prescribed.result in
    let field : c.target.inside.field ≡ field_at L.rows F =
    ap (λ (r : Row). r.field) (c.target.view_is ∙ c.field-target.ensures.value) in
    let given = subst (λ s. AreGiven L E F (prescribed_values (option_copied s))) c.in-Some.is
    c.requires.given in
    subst (λ s. Narrows L E F (IsNeeded L E F) (length L.rows) (prescribed_values (option_copied s))
    c.gcd.result) (sym c.in-Some.is)
    (narrows_sent c.field-target.ensures.whole c.requires.fields c.requires.alike c.requires.narrows
    c.requires.polynomial
    (subst (λ K. IsPolynomial (field_values K) polynomial) field
    c.prescription-prescribed.ensures.valid)
    (subst (λ K. IsGreatestCommonDivisor (field_values K) c.args.g polynomial c.gcd.result) field
    c.gcd.ensures.gcd)
    given.0 given.1
    (c.prescription-prescribed.ensures.value
    ∙ ap (λ K. prescription K pair.value.value pair.image.value) field))
