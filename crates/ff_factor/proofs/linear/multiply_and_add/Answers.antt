use Rattle.std.proofs.Common.{◌+◌, ◌*◌, ◌%◌, ◌<◌, length, slice_index, ap, ◌∙◌, arith}
use Rattle.std.proofs.lemmas.List.{length-set}
use Rattle.ff_matrix.proofs.RowPlaces.{done_more}
use Rattle.ff_residues.proofs.ResidueLists.{below_at, small_step}
use Rattle.ff_factor.proofs.linear.multiply_and_add.Goals as goal

pub overflow_mul-values : goal.overflow_mul-values
overflow_mul-values g c =
    let p = c.args.p in
    let size : p < 64 = omega (arith, c.number-number.ensures.small, c.number-number.ensures.value) in
    let above : 0 < p = omega (arith, c.number-number.ensures.small, c.number-number.ensures.value) in
    let small = small_step p (slice_index c.loop-l.values c.loop-l.l) (slice_index c.args.points.now c.loop-l.l) c.args.a size
    (below_at p c.loop-l.values c.loop-l.l above c.loop-l.invariant.done.residues) (below_at p c.args.points.now c.loop-l.l above c.requires.points) c.requires.addend in
    omega (arith, small)

pub overflow_add-values : goal.overflow_add-values
overflow_add-values g c =
    let p = c.args.p in
    let size : p < 64 = omega (arith, c.number-number.ensures.small, c.number-number.ensures.value) in
    let above : 0 < p = omega (arith, c.number-number.ensures.small, c.number-number.ensures.value) in
    let small = small_step p (slice_index c.loop-l.values c.loop-l.l) (slice_index c.args.points.now c.loop-l.l) c.args.a size
    (below_at p c.loop-l.values c.loop-l.l above c.loop-l.invariant.done.residues) (below_at p c.args.points.now c.loop-l.l above c.requires.points) c.requires.addend in
    omega (arith, small)

pub reduced-requires : goal.reduced-requires
reduced-requires g c =
    let p = c.args.p in
    let size : p < 64 = omega (arith, c.number-number.ensures.small, c.number-number.ensures.value) in
    let above : 0 < p = omega (arith, c.number-number.ensures.small, c.number-number.ensures.value) in
    let small = small_step p (slice_index c.loop-l.values c.loop-l.l) (slice_index c.args.points.now c.loop-l.l) c.args.a size
    (below_at p c.loop-l.values c.loop-l.l above c.loop-l.invariant.done.residues) (below_at p c.args.points.now c.loop-l.l above c.requires.points) c.requires.addend in
    omega (arith, small)

pub loop-l-preserved : goal.loop-l-preserved
loop-l-preserved g c =
    let within : c.loop-l.l < length c.loop-l.values = omega (arith, c.loop-l-test.true, c.loop-l.invariant.lanes, c.told-values) in
    record {
      lanes = length-set c.loop-l.values c.loop-l.l c.reduced.result ∙ c.loop-l.invariant.lanes;
      done = done_more c.args.p c.loop-l.l c.reduced.result _ c.args.values.now c.loop-l.values within
          (c.reduced.ensures.value
          ∙ ap (λ v. (v * slice_index c.args.points.now c.loop-l.l + c.args.a) % c.args.p) (c.loop-l.invariant.done.after c.loop-l.l (omega arith)))
          c.reduced.ensures.residue c.loop-l.invariant.done;
    }
