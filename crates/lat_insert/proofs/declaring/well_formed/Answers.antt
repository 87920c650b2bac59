-- What is wrong with the numbers, and the polynomial that is made of them.
use Rattle.std.proofs.Common.{refl, arith, subst, ◌≤◌}
use Rattle.alg_model.specs.Values.{degree}
use Rattle.lat_core.specs.Editions.{edition_of}
use Rattle.ff_field.specs.SmallFields.{IsFirstTooLarge}
use Rattle.lat_insert.proofs.WrittenPolynomials.{unknown, out_of_range, too_large, last_not_one, last_one}
use Rattle.lat_insert.proofs.declaring.well_formed.Goals as goal
use Rattle.lat_insert.proofs.declaring.well_formed.Goals.{then-degree-lt2-via-then-degree-lt2, then-degree-lt2-via-else-degree-lt2+then-degree-top}

pub returns-in_default-clause-malformed : goal.returns-in_default-clause-malformed
returns-in_default-clause-malformed c =
    unknown (edition_of c.args.edition) c.args.p c.args.digits.now c.characteristic.result c.characteristic.ensures c.in_default.is

pub returns-then-degree-lt2-clause-malformed : goal.returns-then-degree-lt2-clause-malformed
returns-then-degree-lt2-clause-malformed c =
    out_of_range (edition_of c.args.edition) c.args.p c.in-Some.prime c.args.digits.now c.numbers-numbers.result.now
    c.numbers-numbers.ensures.value c.in-Some.ensures
    (λ (low, high). elim c.then-degree-lt2.branch [
      | then-degree-lt2-via-then-degree-lt2 w ↦ omega (arith, low)
      | then-degree-lt2-via-else-degree-lt2+then-degree-top w ↦ omega (arith, high, w.top.ensures)
    ])

pub returns-in_default-of_slice-clause-malformed : goal.returns-in_default-of_slice-clause-malformed
returns-in_default-of_slice-clause-malformed c =
    too_large (edition_of c.args.edition) c.args.p c.in-Some.prime c.args.digits.now c.numbers-numbers.result.now
    c.numbers-numbers.ensures.value c.in-Some.ensures
    (c.if-degree-lt2.false, subst (λ t. degree c.numbers-numbers.result.now ≤ t) c.top.ensures c.if-degree-top.false) c.first_too_large-place.result
    (subst (λ q. IsFirstTooLarge q c.numbers-numbers.result.now c.first_too_large-place.result) c.number.ensures.value c.first_too_large-place.ensures)

pub returns-then-numbers-degree-ne1-clause-malformed : goal.returns-then-numbers-degree-ne1-clause-malformed
returns-then-numbers-degree-ne1-clause-malformed c =
    last_not_one (edition_of c.args.edition) c.args.p c.in-Some.prime c.args.digits.now c.numbers-numbers.result.now
    c.numbers-numbers.ensures.value c.in-Some.ensures
    (c.if-degree-lt2.false, subst (λ t. degree c.numbers-numbers.result.now ≤ t) c.top.ensures c.if-degree-top.false) (c.in-Some-of_slice.ensures.some.0 refl).1 c.if-numbers-degree-ne1.true

pub returns-clause-well_formed : goal.returns-clause-well_formed
returns-clause-well_formed c =
    last_one (edition_of c.args.edition) c.args.p c.in-Some.prime c.args.digits.now c.numbers-numbers.result.now
    c.numbers-numbers.ensures.value c.in-Some.ensures
    (c.if-degree-lt2.false, subst (λ t. degree c.numbers-numbers.result.now ≤ t) c.top.ensures c.if-degree-top.false) (c.in-Some-of_slice.ensures.some.0 refl).1 c.in-Some-of_slice.polynomial
    c.if-numbers-degree-ne1.false c.in-Some-of_slice.ensures.made
