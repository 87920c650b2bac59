use Rattle.std.proofs.Common.{◌∙◌, ap, map, ◌++◌}
use Rattle.lat_core.specs.Editions.{edition_of}
use Rattle.lat_core.specs.PrivateLattices.{rows_with, new_row}
use Rattle.lat_core.proofs.GrownRows.{grown_lattice}
use Rattle.lat_core.proofs.lattices.Lattice.grown_sharing.Goals as goal

pub invariant_of-result : goal.invariant_of-result
invariant_of-result c = (grown_lattice (edition_of c.self.inside.edition) (map (λ r. r.value) c.self.inside.rows.value.items) c.args.self.now
    c.args.fields.now c.args.maps.now (map (λ r. r.value) c.in_ok-new.field-0.value.items) c.self.invariant c.self.view_is
    (ap (λ v. map (λ r. r.value) v.items) c.in_ok-new.ensures.ok ∙ c.in_ok-rows.ensures ∙ ap (λ xs. rows_with 0 (map (λ r. r.value) xs ++ map new_row c.args.fields.now) c.args.maps.now) (c.as_slice.ensures.value ∙ ap (λ v. v.items) c.deref-old.ensures))
    c.requires.compatible c.requires.between).0

pub returns : goal.returns
returns c = (grown_lattice (edition_of c.self.inside.edition) (map (λ r. r.value) c.self.inside.rows.value.items) c.args.self.now
    c.args.fields.now c.args.maps.now (map (λ r. r.value) c.in_ok-new.field-0.value.items) c.self.invariant c.self.view_is
    (ap (λ v. map (λ r. r.value) v.items) c.in_ok-new.ensures.ok ∙ c.in_ok-rows.ensures ∙ ap (λ xs. rows_with 0 (map (λ r. r.value) xs ++ map new_row c.args.fields.now) c.args.maps.now) (c.as_slice.ensures.value ∙ ap (λ v. v.items) c.deref-old.ensures))
    c.requires.compatible c.requires.between).1
