-- The lattice with the row and the two maps.
use Rattle.std.proofs.Common.{◌≡◌, arith, ap, subst, sym}
use Rattle.std.proofs.lemmas.Result.{IfOk-weaker}
use Rattle.alg_model.specs.Declaring.{IsDeclared}
use Rattle.lat_core.specs.SharedRows.{with_rows}
use Rattle.lat_core.specs.Step.{declared_row}
use Rattle.lat_insert.proofs.Declarations.{with_row}
use Rattle.lat_insert.proofs.EditionFields.{top_fits}
use Rattle.lat_insert.proofs.declaring.with_field.Goals as goal

pub new-field-requires-clause-degree : goal.new-field-requires-clause-degree
new-field-requires-clause-degree c =
    let top = top_fits c.edition-edition.result in let same = ap (λ d. d.top) c.edition-edition.ensures.value in let range = c.requires.well_formed.in_range.1 in
    omega (arith, top, same, range)

pub grown-requires-clause-compatible : goal.grown-requires-clause-compatible
grown-requires-clause-compatible c = (with_row c.args.polynomial c.edition-edition.ensures.whole
    (record { proper = c.requires.proper; well_formed = c.requires.well_formed; free = c.requires.free; irreducible = c.requires.irreducible; room = c.requires.room })
    c.new-field.ensures.characteristic c.new-field.ensures.polynomial c.fields.ensures.value c.maps_of-maps.ensures c.row_of-fields.ensures).0

pub grown-requires-clause-between : goal.grown-requires-clause-between
grown-requires-clause-between c = (with_row c.args.polynomial c.edition-edition.ensures.whole
    (record { proper = c.requires.proper; well_formed = c.requires.well_formed; free = c.requires.free; irreducible = c.requires.irreducible; room = c.requires.room })
    c.new-field.ensures.characteristic c.new-field.ensures.polynomial c.fields.ensures.value c.maps_of-maps.ensures c.row_of-fields.ensures).1

pub returns : goal.returns
returns c = IfOk-weaker c.grown.result
    (λ M. M ≡ with_rows c.args.lattice.now c.row_of-fields.result c.maps_of-maps.result)
    (IsDeclared c.args.lattice.now (declared_row c.args.name.now c.args.polynomial.prime c.args.polynomial.coefficients))
    (λ M made. subst (IsDeclared c.args.lattice.now (declared_row c.args.name.now c.args.polynomial.prime c.args.polynomial.coefficients)) (sym made)
    (with_row c.args.polynomial c.edition-edition.ensures.whole
    (record { proper = c.requires.proper; well_formed = c.requires.well_formed; free = c.requires.free; irreducible = c.requires.irreducible; room = c.requires.room })
    c.new-field.ensures.characteristic c.new-field.ensures.polynomial c.fields.ensures.value c.maps_of-maps.ensures c.row_of-fields.ensures).2) c.grown.ensures
