-- One more field.
use Rattle.std.proofs.Common.{rules, ◌≡◌, [], ◌∷◌, ◌++◌}
use Rattle.lat_audit.specs.Readings.{field_place}
use Rattle.lat_audit.specs.PrivateReadings.{Stops}
use Rattle.lat_audit.proofs.ReadLines.{more_rows, no_more_rows}
use Rattle.lat_audit.proofs.readings.read_rows.Goals as goal

pub returns-in_err-row : goal.returns-in_err-row
returns-in_err-row c =
    let stop : Stops (field_place c.args.count []) 3 c.args.lines.now.text.now c.in_err-row.field-0.0 =
    no_more_rows c.args.count c.loop-number.number c.loop-number.rows.items c.as_slice.result.now c.args.lines.now.text.now c.loop-number.lines.text.now
    c.loop-number.invariant.rows c.loop-number-test.true c.as_slice.ensures.value c.loop-number.invariant.read c.in_err-row.field-0.0 c.in_err-row.ensures in
    search rules

pub loop-number-preserved : goal.loop-number-preserved
loop-number-preserved c =
    let pushed : c.push.new.self.items ≡ c.loop-number.rows.items ++ c.in_ok-row.row ∷ [] = c.in_ok-push.ensures.items in
    let counted = c.loop-number.invariant.rows in
    record {
      rows = search rules;
      read = more_rows c.args.count c.loop-number.number c.loop-number.rows.items c.as_slice.result.now c.args.lines.now.text.now c.loop-number.lines.text.now
          c.loop-number.invariant.rows c.loop-number-test.true c.as_slice.ensures.value c.loop-number.invariant.read
          c.push.new.self.items c.in_ok-row.row c.read_row.new.lines.text.now pushed c.in_ok-row.ensures;
    }
