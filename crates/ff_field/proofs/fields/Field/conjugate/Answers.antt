use Rattle.std.proofs.Common.{◌≡◌, ap, sym, ◌∙◌, subst, arith, ◌^◌}
use Rattle.alg_model.specs.Coefficients.{power}
use Rattle.alg_model.specs.Maps.{field_values}
use Rattle.ff_field.proofs.SmallFieldLaws.{first_conjugate, next_conjugate}
use Rattle.ff_field.proofs.fields.Field.conjugate.Goals as goal

pub powers-init : goal.powers-init
powers-init c =
    let K = c.args.self.now in
    let W = c.prime-prime.ensures.whole.finite in
    record {
      valid = subst (field_values K).Valid (sym c.copy-value.ensures) c.requires;
      power = c.copy-value.ensures ∙ sym (first_conjugate K W c.args.a.now c.requires);
    }

pub powers-preserved : goal.powers-preserved
powers-preserved c =
    let K = c.args.self.now in
    let W = c.prime-prime.ensures.whole.finite in
    record {
      valid = c.frob-value.ensures.valid;
      power = c.frob-value.ensures.value ∙ ap (λ b. power (field_values K).ops b K.characteristic) c.powers.invariant.power
          ∙ next_conjugate K W c.powers._i c.args.a.now c.requires;
    }

pub returns-clause-value : goal.returns-clause-value
returns-clause-value c =
    let K = c.args.self.now in
    let all : c.powers._i ≡ c.args.k = omega arith in
    c.powers.invariant.power ∙ ap (λ k. power (field_values K).ops c.args.a.now (K.characteristic ^ k)) all
