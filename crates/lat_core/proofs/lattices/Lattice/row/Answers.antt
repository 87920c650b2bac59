use Rattle.std.proofs.Common.{◌∙◌, ap, slice_index_or}
use Rattle.lat_core.specs.Editions.{edition_of}
use Rattle.lat_core.proofs.KeptMaps.{shown_row}
use Rattle.lat_core.proofs.lattices.Lattice.row.Goals as goal

pub returns : goal.returns
returns c = shown_row (λ a. a.value) (edition_of c.self.inside.edition) c.self.inside.rows.value.items c.args.self.now c.args.number
    c.index.result.now c.self.invariant c.self.view_is c.requires
    (c.index.ensures ∙ ap (λ v. slice_index_or v.items c.args.number c.index.result.now) c.deref-rows.ensures)
