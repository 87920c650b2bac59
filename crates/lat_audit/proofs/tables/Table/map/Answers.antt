-- What stands at the place of a pair.
use Rattle.std.proofs.Common.{rules, ◌≡◌, ◌+◌, ◌*◌, ◌<◌, Some, None, length, sym, ap, ◌∙◌, subst, arith}
use Rattle.std.proofs.lemmas.List.{get_or_default}
use Rattle.std.specs.Prelude.{slice_index_or}
use Rattle.std.specs.FinMap.{get}
use Rattle.alg_model.specs.Lattices.{Lattice, Stored}
use Rattle.ff_embed.specs.SmallEmbeddings.{FieldMap}
use Rattle.lat_core.specs.SharedRows.{IsBetween}
use Rattle.lat_core.specs.declared.TheConstants.{MAX_FIELDS}
use Rattle.lat_audit.proofs.PairPlaces.{table_none, table_at, table_stored}
use Rattle.lat_audit.proofs.tables.Table.map.Goals as goal

pub returns-in-None : goal.returns-in-None
returns-in-None c =
    let t = c.self.inside in
    let li : c.args.i < length t.fields.items = search rules in
    let lj : c.args.j < length t.fields.items = search rules in
    let none : slice_index_or t.places.items (MAX_FIELDS * c.args.i + c.args.j) None ≡ None = search rules in
    subst (λ (L : Lattice). get L.maps (c.args.i, c.args.j) ≡ None) c.self.view_is
    (table_none t.fields.items t.maps.items t.places.items c.self.invariant c.args.i c.args.j li lj none)

pub returns-in-Some : goal.returns-in-Some
returns-in-Some c =
    let t = c.self.inside in
    let li : c.args.i < length t.fields.items = search rules in
    let lj : c.args.j < length t.fields.items = search rules in
    let some : slice_index_or t.places.items (MAX_FIELDS * c.args.i + c.args.j) None ≡ Some c.in-Some.place =
    let told : c.index.result.now ≡ Some c.in-Some.place = search rules in
    let count = c.self.invariant.count in
    let within : c.pair_place.result < length t.places.items = omega (arith, count, c.pair_place.ensures.within) in
    ap (λ n. slice_index_or t.places.items n None) (sym c.pair_place.ensures.place)
    ∙ get_or_default t.places.items c.pair_place.result None c.index.result.now within ∙ sym c.index.ensures ∙ told in
    subst (λ (e : FieldMap). Stored c.args.self.now c.args.i c.args.j e.images × IsBetween c.args.self.now.rows c.args.i c.args.j e)
    (sym c.stored_map.ensures)
    (subst (λ (L : Lattice). Stored L c.args.i c.args.j c.index-in-Some.result.now.map.images × IsBetween L.rows c.args.i c.args.j c.index-in-Some.result.now.map) c.self.view_is
    (table_stored t.fields.items t.maps.items t.places.items c.self.invariant c.args.i c.args.j li lj c.in-Some.place c.index-in-Some.result.now
    (table_at t.fields.items t.maps.items t.places.items c.self.invariant c.args.i c.args.j li lj c.in-Some.place some) c.index-in-Some.ensures))
