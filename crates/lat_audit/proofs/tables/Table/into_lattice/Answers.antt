-- The maps are put in one after the other.
use Rattle.std.proofs.Common.{◌≡◌, sym, subst, ◌∙◌}
use Rattle.std.specs.Prelude.{IfOk}
use Rattle.alg_model.specs.Lattices.{first_edition, Lattice, IsCompatible}
use Rattle.lat_core.specs.SharedRows.{with_rows, no_rows}
use Rattle.lat_audit.proofs.PairPlaces.{table_with_rows}
use Rattle.lat_audit.proofs.tables.Table.into_lattice.Goals as goal

pub of_rows-requires-clause-compatible : goal.of_rows-requires-clause-compatible
of_rows-requires-clause-compatible c =
    subst IsCompatible (sym c.self.view_is ∙ sym (table_with_rows c.self.inside.fields.items c.self.inside.maps.items c.self.invariant.rising)) c.requires

pub returns : goal.returns
returns c =
    let same : with_rows (no_rows first_edition) c.self.inside.fields.items c.self.inside.maps.items ≡ c.args.self =
    table_with_rows c.self.inside.fields.items c.self.inside.maps.items c.self.invariant.rising ∙ c.self.view_is in
    subst (λ (L : Lattice). IfOk c.of_rows.result (λ lattice. lattice ≡ L)) same c.of_rows.ensures
