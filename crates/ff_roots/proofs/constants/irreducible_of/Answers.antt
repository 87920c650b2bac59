use Rattle.std.proofs.Common.{◌<◌, length, ap, sym, subst, arith}
use Rattle.std.proofs.lemmas.List.{length-map}
use Rattle.alg_model.specs.Coefficients.{residues}
use Rattle.alg_model.specs.Factors.{IsMonic}
use Rattle.alg_model.specs.Maps.{field_values, constant}
use Rattle.ff_roots.proofs.ConstantValues.{monic_residues}
use Rattle.ff_roots.proofs.constants.irreducible_of.Goals as goal

pub judge-requires-clause-monic : goal.judge-requires-clause-monic
judge-requires-clause-monic c =
    let F = c.args.field.now in
    let f = c.in_ok-f.f in
    let value = c.in_ok-f.ensures.value in
    let some : 0 < length f.coefficients = omega (
      arith,
      c.monic_of.ensures.len,
      c.requires.not_constant,
      ap length value,
      length-map f.coefficients (constant F),
    ) in
    subst (λ p. IsMonic (residues p) f.coefficients) (sym c.in_ok-f.ensures.prime)
    (monic_residues F f.coefficients some
    (subst (IsMonic (field_values F)) (sym value) c.monic_of.ensures.monic))

pub returns-in-Irreducible-clause-monic : goal.returns-in-Irreducible-clause-monic
returns-in-Irreducible-clause-monic c =
    let F = c.args.field.now in
    let f = c.in_ok-f.f in
    let value = c.in_ok-f.ensures.value in
    let some : 0 < length f.coefficients = omega (
      arith,
      c.monic_of.ensures.len,
      c.requires.not_constant,
      ap length value,
      length-map f.coefficients (constant F),
    ) in
    subst (λ p. IsMonic (residues p) f.coefficients) (sym c.in_ok-f.ensures.prime)
    (monic_residues F f.coefficients some
    (subst (IsMonic (field_values F)) (sym value) c.monic_of.ensures.monic))
