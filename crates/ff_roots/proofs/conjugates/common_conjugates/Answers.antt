use Rattle.std.proofs.Common.{◌≡◌, ap, sym, ◌∙◌, subst, arith, length}
use Rattle.alg_model.specs.Coefficients.{power}
use Rattle.alg_model.specs.Maps.{field_values, degree_of}
use Rattle.ff_field.proofs.SmallFieldLaws.{first_conjugate, next_conjugate}
use Rattle.ff_roots.proofs.RootInsertion.{nothing_rises, nothing_contained}
use Rattle.ff_roots.proofs.ConjugateMembers.{HasPowers, one_power_more, next_power_new, all_powers}
use Rattle.ff_roots.proofs.conjugates.common_conjugates.Goals as goal

pub conjugates-init : goal.conjugates-init
conjugates-init c =
    let F = c.args.field.now in
    let W = c.prime-prime.ensures.whole.finite in
    let v = c.args.v.now in
    let vv = c.requires.root.0 in
    record {
      list = nothing_rises F c.new-list.result c.new-list.ensures;
      count = omega (arith, ap length c.new-list.ensures);
      conjugate = c.copy-conjugate.ensures ∙ sym (first_conjugate F W v vv);
      valid = subst (field_values F).Valid (sym c.copy-conjugate.ensures) vv;
      members = λ w. (
        λ m. absurd (nothing_contained c.new-list.result c.new-list.ensures w m),
        λ p. absurd (omega (arith, p.0.1)),
      );
    }

pub add_common-requires-clause-new : goal.add_common-requires-clause-new
add_common-requires-clause-new c =
    let h = c.conjugates.invariant in
    next_power_new c.args.source.now c.args.field.now c.degree-t-end.ensures.whole.finite
    c.prime-prime.ensures.whole.finite c.requires.prime c.args.v.now c.requires.root c.args.g.now
    c.conjugates._t c.conjugates.list c.conjugates.conjugate
    (omega (arith, c.conjugates-test.true, c.degree-t-end.ensures.value)) h.conjugate h.members

pub conjugates-preserved : goal.conjugates-preserved
conjugates-preserved c =
    let F = c.args.field.now in
    let W = c.prime-prime.ensures.whole.finite in
    let v = c.args.v.now in
    let h = c.conjugates.invariant in
    let added = c.add_common.ensures in
    record {
      list = added.list;
      count = omega (arith, added.count, h.count);
      conjugate = c.frob-conjugate.ensures.value
          ∙ ap (λ b. power (field_values F).ops b F.characteristic) h.conjugate
          ∙ next_conjugate F W c.conjugates._t v c.requires.root.0;
      valid = c.frob-conjugate.ensures.valid;
      members = one_power_more F v c.args.g.now c.conjugates._t c.conjugates.list
          c.add_common.new.list c.conjugates.conjugate h.conjugate h.members added.members;
    }

pub returns-clause-members : goal.returns-clause-members
returns-clause-members c =
    let E = c.args.source.now in
    let F = c.args.field.now in
    let all : c.conjugates._t ≡ degree_of E = omega arith in
    all_powers E F c.degree-t-end.ensures.whole.finite c.prime-prime.ensures.whole.finite
    c.requires.prime c.args.v.now c.requires.root c.args.g.now c.conjugates.list
    (subst (λ t. HasPowers F c.args.v.now c.args.g.now t c.conjugates.list) all
    c.conjugates.invariant.members)
