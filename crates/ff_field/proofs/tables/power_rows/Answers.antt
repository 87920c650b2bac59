use Rattle.std.proofs.Common.{◌≡◌, ◌+◌, ◌-◌, ◌<◌, arith}
use Rattle.alg_model.specs.Values.{degree}
use Rattle.ff_field.specs.PrivateTables.{power_place}
use Rattle.ff_field.proofs.RemainderRows.{zeros_row, no_rows, one_row, last_unit_row, next_row}
use Rattle.ff_field.proofs.tables.power_rows.Goals as goal

pub loop-i-init : goal.loop-i-init
loop-i-init c =
    let p = c.args.p in
    let f = c.args.f.now in
    let positive : 0 < p = omega (arith, c.number-number.ensures.small, c.number-number.ensures.value) in
    let above : 1 < p = omega (arith, c.number-number.ensures.small, c.number-number.ensures.value) in
    record {
      table = no_rows p (degree f) (λ i. power_place p f (degree f + i)) c.repeated-table.result
          c.repeated-table.ensures.len
          (c.repeated-table.ensures.rows p (zeros_row p c.zeros.result positive c.zeros.ensures.len c.zeros.ensures.blank));
      row = c.last_unit-row.ensures.row;
      places = last_unit_row p f c.last_unit-row.result above c.requires.degree.0 c.last_unit-row.ensures.one
          c.last_unit-row.ensures.others;
    }

pub loop-i-preserved : goal.loop-i-preserved
loop-i-preserved c =
    let p = c.args.p in
    let f = c.args.f.now in
    let h = c.loop-i.invariant in
    let made = c.times_x-row.ensures in
    let i = c.loop-i.i in
    let shifted : degree f + i ≡ degree f - 1 + (i + 1) = omega arith in
    record {
      table = one_row p (degree f) i (λ i. power_place p f (degree f + i)) c.loop-i.table _
          (omega arith) made.row
          (next_row p f c.loop-i.row _ i c.requires.degree.0 h.places made.places (degree f + i) (omega arith))
          h.table;
      row = made.row;
      places = next_row p f c.loop-i.row _ i c.requires.degree.0 h.places made.places
          (degree f - 1 + (i + 1)) (omega arith);
    }
