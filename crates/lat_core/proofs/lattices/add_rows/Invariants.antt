use Rattle.std.proofs.Common.{◌≡◌, ◌+◌, ◌++◌, length, map, take}
use Rattle.lat_core.specs.PrivateLattices.{rows_with, new_row}
use Rattle.lat_core.proofs.lattices.add_rows.Given as goal

abbrev pub invariant-loop-field : goal.invariant-loop-field
invariant-loop-field l = record {
  rows : map (λ r. r.value) l.grown.items ≡ map (λ r. r.value) l.fn.grown.items
      ++ rows_with (length l.fn.grown.items) (map new_row (take l.field-index l.fields)) l.maps;
  count : length l.grown.items ≡ length l.fn.grown.items + l.field-index;
}
