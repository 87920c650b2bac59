use Rattle.std.proofs.Common.{◌≤◌, ◌∙◌, ap, sym, subst}
use Rattle.std.specs.FinMap.{len}
use Rattle.std.specs.List.{sum_by}
use Rattle.std.specs.Prelude.{All}
use Rattle.lat_core.specs.declared.TheConstants.{MAX_FIELDS}
use Rattle.lat_core.specs.Editions.{edition_of}
use Rattle.lat_core.proofs.MapLengths.{few_shown, map_count_shown, rows_fit}
use Rattle.lat_core.proofs.lattices.Lattice.maps.Goals as goal

pub count_maps-requires-clause-maps : goal.count_maps-requires-clause-maps
count_maps-requires-clause-maps c = subst (All (λ r. len r.value.maps ≤ MAX_FIELDS)) (sym (c.as_slice.ensures.value ∙ ap (λ v. v.items) c.deref-rows.ensures))
    (few_shown (λ r. r.value) (edition_of c.self.inside.edition) c.self.inside.rows.value.items MAX_FIELDS c.self.invariant
    (rows_fit (λ r. r.value) c.self.inside.edition c.self.inside.rows.value.items c.self.invariant))

pub returns : goal.returns
returns c = c.count_maps.ensures ∙ ap (sum_by (λ r. len r.value.maps)) (c.as_slice.ensures.value ∙ ap (λ v. v.items) c.deref-rows.ensures)
    ∙ map_count_shown (λ r. r.value) (edition_of c.self.inside.edition) c.self.inside.rows.value.items c.args.self.now c.self.view_is
