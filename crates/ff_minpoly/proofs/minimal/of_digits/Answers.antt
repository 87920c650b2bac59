use Rattle.std.proofs.Common.{◌≡◌, ◌+◌, ◌*◌, ◌/◌, ◌<◌, ◌≤◌, [], ◌∷◌, ◌++◌, length, All, ap, sym, ◌∙◌, subst, arith}
use Rattle.std.proofs.lemmas.List.Elements.{All-append, All-nil, All-cons}
use native.Mathlib.Nat.{div-le_self, mul-div_cancel}
use Rattle.alg_model.specs.Polynomials.{trim}
use Rattle.alg_model.specs.Maps.{field_values, degree_of}
use Rattle.ff_poly.specs.declared.TheConstants.{MAX_DEGREE}
use Rattle.ff_minpoly.proofs.DigitValues.{AreChunks, no_chunks, one_chunk, chunk_within, monic_of_chunks}
use Rattle.ff_minpoly.proofs.minimal.of_digits.Goals as goal

pub loop-j-init : goal.loop-j-init
loop-j-init c = subst (λ l. AreChunks c.args.field.now c.args.digits.now l 0) (sym c.new-coefficients.ensures)
    (no_chunks c.args.field.now c.args.digits.now)

pub value_at-requires-clause-within : goal.value_at-requires-clause-within
value_at-requires-clause-within c =
    chunk_within (length c.args.digits.now) c.degree-d.result c.loop-j.j c.loop-j-test.true

pub push-requires : goal.push-requires
push-requires c =
    let few : length c.args.digits.now / c.degree-d.result ≤ length c.args.digits.now =
    div-le_self (length c.args.digits.now) c.degree-d.result in
    let room : length c.args.digits.now ≤ MAX_DEGREE = c.requires.room in (
      omega arith,
      omega (arith, few, room, c.loop-j.invariant.count, c.loop-j-test.true),
    )

pub loop-j-preserved : goal.loop-j-preserved
loop-j-preserved c =
    subst (λ l. AreChunks c.args.field.now c.args.digits.now l (c.loop-j.j + 1)) (sym c.push.ensures.items)
    (one_chunk c.args.field.now c.args.digits.now c.loop-j.coefficients.items c.value_at.result c.degree-d.result
    c.loop-j.j c.degree-d.ensures.value c.value_at.ensures.count
    (c.value_at.ensures.residues c.args.field.now.characteristic c.requires.residues) c.value_at.ensures.places
    c.loop-j.invariant)

pub push-requires-2 : goal.push-requires-2
push-requires-2 c =
    let few : length c.args.digits.now / c.degree-d.result ≤ length c.args.digits.now =
    div-le_self (length c.args.digits.now) c.degree-d.result in
    let room : length c.args.digits.now ≤ MAX_DEGREE = c.requires.room in (
      omega arith,
      omega (arith, few, room, c.loop-j.invariant.count, c.loop-j.auto.j-end),
    )

pub of_values-requires-clause-values : goal.of_values-requires-clause-values
of_values-requires-clause-values c =
    let K = c.args.field.now in
    subst (All (field_values K).Valid)
    (ap (λ v. c.loop-j.coefficients.items ++ v ∷ []) (sym c.one.ensures.value)
    ∙ sym (c.as_slice.ensures.value ∙ c.push-2.ensures.items))
    (All-append (field_values K).Valid c.loop-j.coefficients.items ((field_values K).ops.one ∷ [])
    c.loop-j.invariant.valid
    (All-cons (field_values K).Valid (field_values K).ops.one []
    (subst (field_values K).Valid c.one.ensures.value c.one.ensures.valid) (All-nil (field_values K).Valid)))

pub returns : goal.returns
returns c =
    let K = c.args.field.now in
    let W = c.degree-d.ensures.whole.finite in
    let digits = c.args.digits.now in
    let d = c.degree-d.result in
    let count = c.requires.count in
    let all : c.loop-j.j ≡ length digits / d = omega (arith, c.loop-j-test.false, c.loop-j.auto.j-end) in
    let done : c.loop-j.j ≡ count.0 =
    all ∙ ap (λ q. length digits / q) c.degree-d.ensures.value
    ∙ ap (λ n. n / degree_of K) count.1
    ∙ mul-div_cancel count.0 (subst (λ q. 0 < q) c.degree-d.ensures.value c.degree-d.ensures.positive) in
    monic_of_chunks K W digits c.loop-j.coefficients.items c.of_values.result c.loop-j.j
    (count.1 ∙ ap (λ r. r * degree_of K) (sym done)) c.loop-j.invariant
    (c.of_values.ensures.coefficients
    ∙ ap (trim (field_values K).ops) (c.as_slice.ensures.value ∙ c.push-2.ensures.items
    ∙ ap (λ v. c.loop-j.coefficients.items ++ v ∷ []) c.one.ensures.value))
