use Rattle.std.proofs.Common.{◌≡◌, ◌∷◌, [], ◌∙◌, ap, map, length, length-append, arith, rules}
use Rattle.lat_core.specs.PrivateLattices.{new_row}
use Rattle.lat_core.proofs.GrownRows.{pushed_row}
use Rattle.lat_core.proofs.lattices.add_rows.Goals as goal

pub loop-field-preserved : goal.loop-field-preserved
loop-field-preserved c =
    let number : c.len-number.result ≡ length c.loop-field.grown.items = search rules in
    record {
      rows = ap (map (λ r. r.value)) c.in_ok-push.ensures.items
          ∙ pushed_row (λ r. r.value) new_row (map (λ r. r.value) c.args.grown.now.items) c.args.fields.now c.field-item.result
          c.loop-field.grown.items c.in_ok-row_made.field-0 (length c.args.grown.now.items) c.loop-field.field-index
          c.len-number.result c.args.maps.now c.loop-field.invariant.rows c.loop-field-test.true c.field-item.is
          (number ∙ c.loop-field.invariant.count) c.in_ok-row_made.ensures;
      count = omega (
        arith,
        ap length c.in_ok-push.ensures.items,
        length-append c.loop-field.grown.items (c.in_ok-row_made.field-0 ∷ []),
        c.loop-field.invariant.count,
      );
    }
