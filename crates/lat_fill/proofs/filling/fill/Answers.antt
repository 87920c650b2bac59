use Rattle.std.proofs.Common.{◌≡◌, ◌≤◌, length, sym, ◌∙◌, subst, arith, rules}
use Rattle.alg_model.specs.Lattices.{Grows}
use Rattle.alg_model.specs.Filling.{IsFilled}
use Rattle.lat_core.specs.SharedRows.{map_count}
use Rattle.lat_fill.proofs.FilledLattices.{go_into, fillable, world_members, world_home, conclude, count_made, not_fewer}
use Rattle.lat_fill.proofs.filling.fill.Goals as goal

pub list_made-requires-clause-into : goal.list_made-requires-clause-into
list_made-requires-clause-into c = go_into c.args.phi.now.images c.missing-degrees.result.items c.as_slice.result.now c.in_ok-fields.fields.items
    c.as_slice-2.result.now c.edition-edition.ensures.whole c.requires.fields c.requires.candidate c.missing-degrees.ensures.missing
    c.as_slice.ensures.value c.in_ok-fields.ensures c.as_slice-2.ensures.value

pub ways-requires-clause-members : goal.ways-requires-clause-members
ways-requires-clause-members c = world_members
    (fillable c.edition-edition.result c.args.phi.now.images c.missing-degrees.result.items c.as_slice.result.now c.in_ok-fields.fields.items
    c.as_slice-2.result.now c.in_ok-members.members.items c.list_made.new.members.items c.edition-edition.ensures.value c.edition-edition.ensures.whole
    c.requires.fields c.requires.candidate c.requires.room c.missing-degrees.ensures.missing c.as_slice.ensures.value c.in_ok-fields.ensures
    c.as_slice-2.ensures.value c.in_ok-members.ensures c.in_ok-list_made.ensures)
    c.as_slice-3.result.now c.as_slice-3.ensures.value

pub ways-requires-clause-home : goal.ways-requires-clause-home
ways-requires-clause-home c = world_home
    (fillable c.edition-edition.result c.args.phi.now.images c.missing-degrees.result.items c.as_slice.result.now c.in_ok-fields.fields.items
    c.as_slice-2.result.now c.in_ok-members.members.items c.list_made.new.members.items c.edition-edition.ensures.value c.edition-edition.ensures.whole
    c.requires.fields c.requires.candidate c.requires.room c.missing-degrees.ensures.missing c.as_slice.ensures.value c.in_ok-fields.ensures
    c.as_slice-2.ensures.value c.in_ok-members.ensures c.in_ok-list_made.ensures)
    c.as_slice-3.result.now c.as_slice-3.ensures.value

pub grown_sharing-requires-clause-compatible : goal.grown_sharing-requires-clause-compatible
grown_sharing-requires-clause-compatible c = (conclude
    (fillable c.edition-edition.result c.args.phi.now.images c.missing-degrees.result.items c.as_slice.result.now c.in_ok-fields.fields.items
    c.as_slice-2.result.now c.in_ok-members.members.items c.list_made.new.members.items c.edition-edition.ensures.value c.edition-edition.ensures.whole
    c.requires.fields c.requires.candidate c.requires.room c.missing-degrees.ensures.missing c.as_slice.ensures.value c.in_ok-fields.ensures
    c.as_slice-2.ensures.value c.in_ok-members.ensures c.in_ok-list_made.ensures)
    c.as_slice-3.result.now c.in_ok-maps.maps.items c.as_slice-5.result.now c.as_slice-4.result.now c.as_slice-3.ensures.value c.in_ok-maps.ensures
    c.as_slice-4.ensures.value c.as_slice-5.ensures.value).compatible

pub grown_sharing-requires-clause-between : goal.grown_sharing-requires-clause-between
grown_sharing-requires-clause-between c = (conclude
    (fillable c.edition-edition.result c.args.phi.now.images c.missing-degrees.result.items c.as_slice.result.now c.in_ok-fields.fields.items
    c.as_slice-2.result.now c.in_ok-members.members.items c.list_made.new.members.items c.edition-edition.ensures.value c.edition-edition.ensures.whole
    c.requires.fields c.requires.candidate c.requires.room c.missing-degrees.ensures.missing c.as_slice.ensures.value c.in_ok-fields.ensures
    c.as_slice-2.ensures.value c.in_ok-members.ensures c.in_ok-list_made.ensures)
    c.as_slice-3.result.now c.in_ok-maps.maps.items c.as_slice-5.result.now c.as_slice-4.result.now c.as_slice-3.ensures.value c.in_ok-maps.ensures
    c.as_slice-4.ensures.value c.as_slice-5.ensures.value).between

pub overflow_sub-linked : goal.overflow_sub-linked
overflow_sub-linked c =
    let grows : Grows c.args.lattice.now c.in_ok-grown.grown = subst (Grows c.args.lattice.now) (sym c.in_ok-grown.ensures) (conclude
    (fillable c.edition-edition.result c.args.phi.now.images c.missing-degrees.result.items c.as_slice.result.now c.in_ok-fields.fields.items
    c.as_slice-2.result.now c.in_ok-members.members.items c.list_made.new.members.items c.edition-edition.ensures.value c.edition-edition.ensures.whole
    c.requires.fields c.requires.candidate c.requires.room c.missing-degrees.ensures.missing c.as_slice.ensures.value c.in_ok-fields.ensures
    c.as_slice-2.ensures.value c.in_ok-members.ensures c.in_ok-list_made.ensures)
    c.as_slice-3.result.now c.in_ok-maps.maps.items c.as_slice-5.result.now c.as_slice-4.result.now c.as_slice-3.ensures.value c.in_ok-maps.ensures
    c.as_slice-4.ensures.value c.as_slice-5.ensures.value).grows in
    let more : map_count c.args.lattice.now ≤ map_count c.in_ok-grown.grown = not_fewer grows in
    omega (arith, more, c.maps.ensures, c.maps-2.ensures)

pub returns-clause-filled : goal.returns-clause-filled
returns-clause-filled c = subst (IsFilled c.args.lattice.now c.args.from c.args.into c.args.phi.now.images) (sym c.in_ok-grown.ensures)
    (conclude
    (fillable c.edition-edition.result c.args.phi.now.images c.missing-degrees.result.items c.as_slice.result.now c.in_ok-fields.fields.items
    c.as_slice-2.result.now c.in_ok-members.members.items c.list_made.new.members.items c.edition-edition.ensures.value c.edition-edition.ensures.whole
    c.requires.fields c.requires.candidate c.requires.room c.missing-degrees.ensures.missing c.as_slice.ensures.value c.in_ok-fields.ensures
    c.as_slice-2.ensures.value c.in_ok-members.ensures c.in_ok-list_made.ensures)
    c.as_slice-3.result.now c.in_ok-maps.maps.items c.as_slice-5.result.now c.as_slice-4.result.now c.as_slice-3.ensures.value c.in_ok-maps.ensures
    c.as_slice-4.ensures.value c.as_slice-5.ensures.value).filled

pub returns-clause-made : goal.returns-clause-made
returns-clause-made c = λ degrees m.
    let count : c.len.result ≡ length c.in_ok-fields.fields.items = search rules in
    count ∙ count_made
    (fillable c.edition-edition.result c.args.phi.now.images c.missing-degrees.result.items c.as_slice.result.now c.in_ok-fields.fields.items
    c.as_slice-2.result.now c.in_ok-members.members.items c.list_made.new.members.items c.edition-edition.ensures.value c.edition-edition.ensures.whole
    c.requires.fields c.requires.candidate c.requires.room c.missing-degrees.ensures.missing c.as_slice.ensures.value c.in_ok-fields.ensures
    c.as_slice-2.ensures.value c.in_ok-members.ensures c.in_ok-list_made.ensures)
    degrees m

pub returns-clause-linked : goal.returns-clause-linked
returns-clause-linked c =
    let grows : Grows c.args.lattice.now c.in_ok-grown.grown = subst (Grows c.args.lattice.now) (sym c.in_ok-grown.ensures) (conclude
    (fillable c.edition-edition.result c.args.phi.now.images c.missing-degrees.result.items c.as_slice.result.now c.in_ok-fields.fields.items
    c.as_slice-2.result.now c.in_ok-members.members.items c.list_made.new.members.items c.edition-edition.ensures.value c.edition-edition.ensures.whole
    c.requires.fields c.requires.candidate c.requires.room c.missing-degrees.ensures.missing c.as_slice.ensures.value c.in_ok-fields.ensures
    c.as_slice-2.ensures.value c.in_ok-members.ensures c.in_ok-list_made.ensures)
    c.as_slice-3.result.now c.in_ok-maps.maps.items c.as_slice-5.result.now c.as_slice-4.result.now c.as_slice-3.ensures.value c.in_ok-maps.ensures
    c.as_slice-4.ensures.value c.as_slice-5.ensures.value).grows in
    let more : map_count c.args.lattice.now ≤ map_count c.in_ok-grown.grown = not_fewer grows in
    omega (arith, more, c.maps.ensures, c.maps-2.ensures)
