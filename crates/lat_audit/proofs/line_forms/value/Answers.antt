-- A word is one list of digits.
use Rattle.std.proofs.Common.{◌≡◌, true, false, sym, subst, ◌∙◌}
use Rattle.alg_model.specs.Maps.{field_values}
use Rattle.lat_language.specs.PrivateCoefficients.{digits_text_injective}
use Rattle.lat_audit.proofs.ReadRows.{value_digits}
use Rattle.lat_audit.proofs.line_forms.value.Goals as goal

pub returns-else-are_digits : goal.returns-else-are_digits
returns-else-are_digits c = λ v valid e.
    let same : c.numbers.result.now ≡ v = c.numbers.ensures.value
    ∙ digits_text_injective c.in-Some.digits v c.in-Some.ensures.0 (value_digits c.args.row.now.field v c.poly-poly.ensures.whole valid) (sym c.in-Some.ensures.1 ∙ e) in
    let no : false ≡ true = c.if-are_digits.ensures.1 (subst (λ u. (field_values c.args.row.now.field).Valid u) (sym same) valid) in
    cc
