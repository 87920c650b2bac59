use Rattle.std.proofs.Common.{◌+◌, ◌*◌, ◌%◌, length, take, slice_index, ap, ap₂, sym, ◌∙◌, subst, arith, length-take, get_or-take}
use Rattle.alg_model.specs.Maps.{field_values, degree_of}
use Rattle.ff_roots.proofs.ValueMultiples.{multiple_added, multiple_added_valid, nothing_added}
use Rattle.ff_roots.proofs.places.with_multiple.Goals as goal

pub returns-then-c-eq0-clause-value : goal.returns-then-c-eq0-clause-value
returns-then-c-eq0-clause-value c =
    c.copy.ensures ∙ nothing_added c.args.field.now c.degree-n.ensures.whole c.args.a.now c.args.v.now
    c.requires.first c.requires.second c.args.c c.requires.residue c.if-c-eq0.true

pub returns-clause-value : goal.returns-clause-value
returns-clause-value c =
    let F = c.args.field.now in
    let row = c.row_with_multiple-row.result in
    let n = c.degree-n.ensures.value in
    let fits = c.degree-n.ensures.whole.fits in
    let long = c.row_with_multiple-row.ensures.len in
    c.of_digits.ensures ∙ ap (λ m. take m row) n
    ∙ multiple_added F c.degree-n.ensures.whole c.args.a.now c.args.v.now c.requires.first
    c.requires.second c.args.c c.requires.residue (take (degree_of F) row)
    (length-take (degree_of F) row ∙ (omega (arith, long, fits)))
    (λ k l. get_or-take (degree_of F) row k 0 l
    ∙ c.row_with_multiple-row.ensures.places k
    (let e = ap length c.digits.ensures.value in omega (arith, e, c.requires.first.1))
    ∙ ap₂ (λ x y. (slice_index x k + c.args.c * slice_index y k) % c.prime.result)
    c.digits.ensures.value c.digits-2.ensures.value
    ∙ ap (λ q. (slice_index c.args.a.now k + c.args.c * slice_index c.args.v.now k) % q)
    c.prime.ensures.value)

pub returns-clause-valid : goal.returns-clause-valid
returns-clause-valid c = subst (field_values c.args.field.now).Valid (sym (returns-clause-value c))
    (multiple_added_valid c.args.field.now c.degree-n.ensures.whole c.args.a.now c.args.v.now
    c.requires.first c.requires.second c.args.c c.requires.residue)
