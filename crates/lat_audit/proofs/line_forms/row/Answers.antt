-- The words of a line are those of one row.
use Rattle.std.proofs.Common.{rules, ◌≡◌, length}
use Rattle.std.specs.Prelude.{decimal}
use Rattle.lat_audit.proofs.ReadRows.{no_row_line, other_number, no_poly, row_read}
use Rattle.lat_audit.proofs.line_forms.row.Goals as goal

pub returns-in_default : goal.returns-in_default
returns-in_default c = no_row_line c.args.rows.now c.args.line.now c.requires c.in_default.ensures

pub returns-then-not-is_number : goal.returns-then-not-is_number
returns-then-not-is_number c =
    let other : c.in-Some.number.now ≡ decimal (length c.args.rows.now) → ⊥ = search rules in
    other_number c.args.rows.now c.args.line.now c.in-Some.number.now c.in-Some.name.now c.in-Some.characteristic.now c.in-Some.coefficients.now
    c.in-Some.ensures c.requires other

pub returns-in-None : goal.returns-in-None
returns-in-None c = no_poly c.args.rows.now c.args.line.now c.in-Some.number.now c.in-Some.name.now c.in-Some.characteristic.now c.in-Some.coefficients.now
    c.in-Some.ensures c.requires c.in-None.ensures

pub returns-in-Some-polynomial : goal.returns-in-Some-polynomial
returns-in-Some-polynomial c =
    let number : c.in-Some.number.now ≡ decimal (length c.args.rows.now) = search rules in
    row_read c.args.rows.now c.args.line.now c.in-Some.number.now c.in-Some.name.now c.in-Some.characteristic.now c.in-Some.coefficients.now
    c.in-Some.ensures c.requires number c.in-Some-polynomial.poly.prime c.in-Some-polynomial.poly.coefficients
    c.in-Some-polynomial.ensures.0 c.in-Some-polynomial.ensures.1 c.in-Some-polynomial.ensures.2 c.field_behind.result c.field_behind.ensures
