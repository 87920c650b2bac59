use Rattle.std.proofs.Common.{◌∙◌, ap₂, sym, map, ◌++◌, arith}
use Rattle.std.proofs.lemmas.List.{length-map}
use Rattle.lat_core.specs.PrivateLattices.{new_row, rows_with}
use Rattle.lat_core.proofs.GrownRows.{rows_with_append, grown_length}
use Rattle.lat_core.proofs.lattices.grown_rows.Goals as goal

pub add_rows-requires : goal.add_rows-requires
add_rows-requires c =
    omega (arith, c.requires, grown_length (λ r. r.value) c.in_ok-grown.grown.items c.args.rows.now c.args.maps.now c.in_ok-grown.ensures)

pub returns : goal.returns
returns c =
    let same = grown_length (λ r. r.value) c.in_ok-grown.grown.items c.args.rows.now c.args.maps.now c.in_ok-grown.ensures in
    c.in_ok-add_rows.ensures
    ∙ ap₂ (λ xs n. xs ++ rows_with n (map new_row c.args.fields.now) c.args.maps.now) c.in_ok-grown.ensures
    (same ∙ sym (length-map c.args.rows.now (λ r. r.value)) ∙ omega arith)
    ∙ sym (rows_with_append (map (λ r. r.value) c.args.rows.now) (map new_row c.args.fields.now) 0 c.args.maps.now)
