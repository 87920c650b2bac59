-- One more field, and all of them.
use Rattle.std.proofs.Common.{◌<◌, length, sym, arith}
use Rattle.std.proofs.lemmas.List.{append-nil}
use Rattle.lat_audit.proofs.DumpedLines.{field_lines_more}
use Rattle.lat_audit.proofs.dumps.add_fields.Goals as goal

pub loop-number-init : goal.loop-number-init
loop-number-init c = sym (append-nil c.args.out.now.items)

pub loop-number-preserved : goal.loop-number-preserved
loop-number-preserved c =
    let count = c.fields-number-end.ensures.value in
    let test = c.loop-number-test.true in
    let within : c.loop-number.number < length c.args.lattice.now.rows = omega arith in
    field_lines_more c.args.out.now.items _ _ c.args.lattice.now.rows c.loop-number.number c.field.result.now
    within c.field.ensures.value c.loop-number.invariant c.in_ok-add_field.ensures
