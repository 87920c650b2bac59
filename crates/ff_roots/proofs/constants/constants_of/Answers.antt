use Rattle.std.proofs.Common.{◌≡◌, ◌<◌, All, length, refl, take, ap, sym, ◌∙◌, subst, arith}
use Rattle.std.proofs.lemmas.List.{take_all}
use Rattle.std.proofs.lemmas.List.Elements.{All-push}
use Rattle.alg_model.specs.Polynomials.{trim}
use Rattle.alg_model.specs.Coefficients.{mod_ops}
use Rattle.alg_model.specs.Maps.{field_values, constants}
use Rattle.alg_splitting.proofs.ConstantPolynomials.{constants_trim}
use Rattle.ff_roots.proofs.ConstantValues.{constants_more, not_constants}
use Rattle.ff_roots.proofs.constants.constants_of.Goals as goal

pub returns-in_err-residue_of-clause-none : goal.returns-in_err-residue_of-clause-none
returns-in_err-residue_of-clause-none c = λ n f e.
    let g = c.coefficients-c-items.result.now in
    let l : c.loop-c.c-index < length g = omega arith in
    not_constants c.args.field.now f g c.loop-c.c-index c.c-item.result l c.c-item.is
    (c.in_err-residue_of.ensures.none refl) (e ∙ sym c.coefficients-c-items.ensures.value)

pub loop-c-preserved : goal.loop-c-preserved
loop-c-preserved c =
    let F = c.args.field.now in
    let g = c.coefficients-c-items.result.now in
    let rs = c.loop-c.residues.items in
    let r = c.in_ok-residue_of.field-0 in
    let l : c.loop-c.c-index < length g = omega arith in
    let same = c.push.ensures.items in
    record {
      values = ap (constants F) same
          ∙ constants_more F rs r g c.loop-c.c-index c.c-item.result c.loop-c.invariant.values l
          c.c-item.is c.in_ok-residue_of.ensures.value;
      residues = subst (All (λ x. x < F.characteristic)) (sym same)
          (All-push (λ x. x < F.characteristic) rs r c.loop-c.invariant.residues
          c.in_ok-residue_of.ensures.residue);
    }

pub returns-clause-value : goal.returns-clause-value
returns-clause-value c =
    let F = c.args.field.now in
    let W = c.prime-p.ensures.whole.finite in
    let rs = c.loop-c.residues.items in
    let g = c.coefficients-c-items.result.now in
    let all : take c.loop-c.c-index g ≡ g =
    take_all c.loop-c.c-index g (omega (arith, c.loop-c-test.false)) in
    let made = c.loop-c.invariant.values ∙ all ∙ c.coefficients-c-items.ensures.value in
    ap (constants F) (c.trimmed.ensures.coefficients
    ∙ ap (trim (mod_ops c.prime-p.result)) c.as_slice.ensures.value)
    ∙ constants_trim F W rs c.loop-c.invariant.residues
    ∙ ap (trim (field_values F).ops) made ∙ c.requires.1
