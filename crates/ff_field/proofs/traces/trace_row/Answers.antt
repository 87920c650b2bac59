use Rattle.std.proofs.Common.{[], ◌+◌, ◌%◌, ◌<◌, slice_index, slice_index_or, All, ap, ap₂, ◌∙◌, subst, arith, ◌≤◌}
use Rattle.std.proofs.lemmas.List.Elements.{All-from_get_or}
use Rattle.alg_model.specs.Maps.{degree_of}
use Rattle.ff_poly.specs.declared.TheConstants.{MAX_DEGREE}
use Rattle.ff_field.specs.PrivateTables.{scalar_sum}
use Rattle.ff_field.proofs.TraceRows.{unit_gives, zeros_give, next_gives, sum_gives}
use Rattle.ff_field.proofs.traces.trace_row.Goals as goal

pub conjugates-init : goal.conjugates-init
conjugates-init c =
    let K = c.args.modulus.now in
    let W = c.prime-p.ensures.whole.finite in
    let some : 0 < degree_of K = omega (arith, c.degree-n.ensures.positive, c.degree-n.ensures.value) in
    let positive : 0 < K.characteristic = let l : 1 < K.characteristic = W.characteristic.above_one in omega arith in
    record {
      traces = zeros_give K W c.zeros-traces.result c.zeros-traces.ensures.len
          (All-from_get_or (λ x. x < K.characteristic) c.zeros-traces.result 0 (λ k l. let e = c.zeros-traces.ensures.blank k in omega (arith, e))) c.zeros-traces.ensures.blank;
      digits = unit_gives K W c.first_unit-digits.result some c.first_unit-digits.ensures.len
          (subst (λ q. All (λ x. x < q) c.first_unit-digits.result) c.prime-p.ensures.value c.first_unit-digits.ensures.residues)
          c.first_unit-digits.ensures.one c.first_unit-digits.ensures.others;
    }

pub conjugates-preserved : goal.conjugates-preserved
conjugates-preserved c =
    let K = c.args.modulus.now in
    let W = c.prime-p.ensures.whole.finite in
    let h = c.conjugates.invariant in
    let k = c.conjugates._k in
    let some : 0 < degree_of K = omega (arith, c.degree-n.ensures.positive, c.degree-n.ensures.value) in
    let fits : degree_of K ≤ MAX_DEGREE = c.degree-n.ensures.whole.fits in
    let p = c.prime-p.ensures.value in
    let sums = c.sum_row-traces in
    let next = c.next_digits-digits in
    record {
      traces = sum_gives K W c.conjugates.traces c.conjugates.digits sums.result k h.traces h.digits sums.ensures.len
          (subst (λ q. All (λ x. x < q) sums.result) p sums.ensures.residues) some
          (λ j l. sums.ensures.places j (omega (arith, h.traces.count))
          ∙ ap (λ q. (slice_index c.conjugates.traces j + slice_index c.conjugates.digits j) % q) p);
      digits = next_gives K W c.conjugates.digits next.result c.args.frobenius.now k c.requires h.digits next.ensures.len
          (subst (λ q. All (λ x. x < q) next.result) p next.ensures.residues)
          (λ j l. next.ensures.places j (omega (arith, c.degree-n.ensures.value))
          ∙ ap₂ (λ m q. scalar_sum m c.conjugates.digits (slice_index_or c.args.frobenius.now j []) % q) c.degree-n.ensures.value p);
    }
