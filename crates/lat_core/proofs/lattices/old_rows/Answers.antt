use Rattle.std.proofs.Common.{[], ◌∙◌, ap, map, arith}
use Rattle.lat_core.proofs.GrownRows.{pushed_row}
use Rattle.lat_core.proofs.lattices.old_rows.Goals as goal

pub loop-number-preserved : goal.loop-number-preserved
loop-number-preserved c =
    ap (map (λ r. r.value)) c.in_ok-push.ensures.items
    ∙ pushed_row (λ r. r.value) (λ r. r.value) [] c.args.rows.now c.index-rows-number.result c.loop-number.grown.items c.in_ok-row_grown.field-0
    0 c.loop-number.number c.loop-number.number c.args.maps.now c.loop-number.invariant c.loop-number-test.true c.index-rows-number.is
    (omega arith) c.in_ok-row_grown.ensures
