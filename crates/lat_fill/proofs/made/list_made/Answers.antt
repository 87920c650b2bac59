use Rattle.std.proofs.Common.{◌≡◌, ◌+◌, ◌++◌, length, length-append, sym, subst, arith}
use Rattle.lat_fill.specs.PrivateListing.{AreListed}
use Rattle.lat_fill.specs.PrivateMaking.{IsMadeMap}
use Rattle.lat_fill.proofs.MadeFields.{row_field, divides_at, made_map_at, list_added}
use Rattle.lat_fill.proofs.made.list_made.Goals as goal

pub made_map-made-requires-clause-divides : goal.made_map-made-requires-clause-divides
made_map-made-requires-clause-divides c = divides_at
    (row_field c.args.fields.now c.loop-place.place c.index-fields-place.result c.field_in.result.now c.loop-place-test.true c.index-fields-place.is c.field_in.ensures)
    c.field_of-target.ensures (c.requires.into.divides c.loop-place.place c.loop-place-test.true)

pub loop-place-preserved : goal.loop-place-preserved
loop-place-preserved c = λ E phi h.
    let rows = c.args.lattice.now.rows ++ c.args.fields.now in
    subst (AreListed c.args.lattice.now E c.args.into phi rows (length c.args.lattice.now.rows + (c.loop-place.place + 1))) (sym c.in_ok-push.ensures.items)
    (list_added c.args.lattice.now E c.args.into phi c.args.fields.now c.loop-place.place c.loop-place.members.items c.requires.target
    (c.loop-place.invariant E phi h) _ c.loop-place-test.true (omega (arith, c.fields-first.ensures.value))
    (made_map_at
    (row_field c.args.fields.now c.loop-place.place c.index-fields-place.result c.field_in.result.now c.loop-place-test.true c.index-fields-place.is c.field_in.ensures)
    c.field_of-target.ensures
    (subst (IsMadeMap c.field_in.result.now c.field_of-target.result.now) (sym c.in_ok-map.ensures.same) c.made_map-made.ensures)))

pub returns : goal.returns
returns c = λ E phi h.
    let rows = c.args.lattice.now.rows ++ c.args.fields.now in
    let end : length c.args.lattice.now.rows + c.loop-place.place ≡ length rows =
    omega (arith, length-append c.args.lattice.now.rows c.args.fields.now, c.loop-place-test.false, c.loop-place.auto.place-end) in
    subst (λ n. AreListed c.args.lattice.now E c.args.into phi rows n c.loop-place.members.items) end (c.loop-place.invariant E phi h)
