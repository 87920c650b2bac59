-- One section behind the other.
use Rattle.std.proofs.Common.{rules, ◌≡◌, ◌+◌, ◌<◌, length, arith, subst}
use Rattle.lat_audit.specs.Readings.{Header, MapCount, End, Reading, ended_lines}
use Rattle.std.proofs.Common.{Err, ℕ}
use Rattle.lat_audit.specs.PrivateReadings.{Stops}
use Rattle.lat_audit.proofs.ReadLines.{then_stops, read_to_maps, read_to_end, read_too_far}
use Rattle.lat_audit.proofs.readings.read.Goals as goal

pub returns-in_err-maps-clause-reading : goal.returns-in_err-maps-clause-reading
returns-in_err-maps-clause-reading c =
    let n = c.in_ok-fields.fields in
    let rows = c.in_ok-rows.rows.items in
    let stop : Stops Header 1 c.args.text.now c.in_err-maps.field-0.0 =
    then_stops Header (MapCount rows) 1 (n + 3) c.args.text.now c.read_rows.new.lines.text.now c.in_err-maps.field-0.0
    (read_to_maps c.args.text.now c.read_header.new.lines.text.now c.read_field_count.new.lines.text.now c.read_rows.new.lines.text.now n rows
    c.in_ok-read_header.ensures.reading c.in_ok-fields.ensures.2 c.in_ok-rows.ensures.1) (c.in_err-maps.ensures rows) in
    search rules

pub returns-in_err-read_end-clause-reading : goal.returns-in_err-read_end-clause-reading
returns-in_err-read_end-clause-reading c =
    let n = c.in_ok-fields.fields in
    let m = c.in_ok-maps.maps in
    let rows = c.in_ok-rows.rows.items in
    let images = c.in_ok-images.images.items in
    let stop : Stops Header 1 c.args.text.now c.in_err-read_end.field-0.0 =
    then_stops Header (End (record { rows = rows; images = images })) 1 (n + m + 4) c.args.text.now c.read_images.new.lines.text.now c.in_err-read_end.field-0.0
    (read_to_end c.args.text.now c.read_rows.new.lines.text.now c.read_map_count.new.lines.text.now c.read_images.new.lines.text.now n m rows c.as_slice.result.now images
    c.in_ok-rows.ensures.0 c.as_slice.ensures.value
    (read_to_maps c.args.text.now c.read_header.new.lines.text.now c.read_field_count.new.lines.text.now c.read_rows.new.lines.text.now n rows
    c.in_ok-read_header.ensures.reading c.in_ok-fields.ensures.2 c.in_ok-rows.ensures.1)
    c.in_ok-maps.ensures.1 c.in_ok-images.ensures.1)
    (c.in_err-read_end.ensures (record { rows = rows; images = images })) in
    search rules

pub returns-then-not-is_empty-clause-reading : goal.returns-then-not-is_empty-clause-reading
returns-then-not-is_empty-clause-reading c =
    let n = c.in_ok-fields.fields in
    let m = c.in_ok-maps.maps in
    let rows = c.in_ok-rows.rows.items in
    let images = c.in_ok-images.images.items in
    let some : 0 < length c.read_end.new.lines.text.now = search rules in
    let numbers : n + m + 4 + 1 ≡ n + m + 5 = omega arith in
    subst (λ (k : ℕ). Reading Header 1 (ended_lines c.args.text.now) (Err k)) numbers
    (read_too_far c.args.text.now c.read_images.new.lines.text.now c.read_end.new.lines.text.now (n + m + 4) (record { rows = rows; images = images })
    (read_to_end c.args.text.now c.read_rows.new.lines.text.now c.read_map_count.new.lines.text.now c.read_images.new.lines.text.now n m rows c.as_slice.result.now images
    c.in_ok-rows.ensures.0 c.as_slice.ensures.value
    (read_to_maps c.args.text.now c.read_header.new.lines.text.now c.read_field_count.new.lines.text.now c.read_rows.new.lines.text.now n rows
    c.in_ok-read_header.ensures.reading c.in_ok-fields.ensures.2 c.in_ok-rows.ensures.1)
    c.in_ok-maps.ensures.1 c.in_ok-images.ensures.1)
    c.in_ok-read_end.ensures some)
