use Rattle.std.proofs.Common.{◌∙◌, ap, map, ◌++◌}
use Rattle.lat_core.specs.Editions.{edition_of}
use Rattle.lat_core.specs.PrivateLattices.{rows_with, new_row}
use Rattle.lat_core.proofs.GrownRows.{lattice_of_rows}
use Rattle.lat_core.proofs.lattices.Lattice.of_rows.Goals as goal

pub invariant_of-result : goal.invariant_of-result
invariant_of-result c = (lattice_of_rows (edition_of c.args.edition) c.args.fields.items c.args.maps.items (map (λ r. r.value) c.in_ok-new.field-0.value.items)
    (ap (λ v. map (λ r. r.value) v.items) c.in_ok-new.ensures.ok ∙ c.in_ok-rows.ensures ∙ (λ i. rows_with 0 (map (λ r. r.value) ((c.as_slice.ensures.value ∙ c.new-none.ensures.items) i) ++ map new_row (c.as_slice-2.ensures.value i)) (c.as_slice-3.ensures.value i)))
    c.requires.compatible c.requires.between).0

pub returns : goal.returns
returns c = (lattice_of_rows (edition_of c.args.edition) c.args.fields.items c.args.maps.items (map (λ r. r.value) c.in_ok-new.field-0.value.items)
    (ap (λ v. map (λ r. r.value) v.items) c.in_ok-new.ensures.ok ∙ c.in_ok-rows.ensures ∙ (λ i. rows_with 0 (map (λ r. r.value) ((c.as_slice.ensures.value ∙ c.new-none.ensures.items) i) ++ map new_row (c.as_slice-2.ensures.value i)) (c.as_slice-3.ensures.value i)))
    c.requires.compatible c.requires.between).1
