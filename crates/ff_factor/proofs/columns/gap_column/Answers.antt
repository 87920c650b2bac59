use Rattle.std.proofs.Common.{◌≡◌, ◌-◌, ◌==◌, if◌then◌else◌, length, slice_index, ap, ◌∙◌, arith, subst}
use Rattle.alg_model.specs.Coefficients.{mod_ops, residues}
use Rattle.alg_model.specs.Values.{degree}
use Rattle.alg_model.specs.Matrices.{IsColumn}
use Rattle.ff_factor.proofs.PowersOfVariable.{column_from_power}
use Rattle.ff_factor.proofs.columns.gap_column.Goals as goal

pub returns-clause-value : goal.returns-clause-value
returns-clause-value c =
    let f = c.args.f.now in
    let g = c.args.power.now in
    let numbers = c.gap_numbers-numbers.result.items in
    let at = c.gap_numbers-numbers.ensures in
    let n : length c.coefficients.result.now - 1 ≡ degree f.coefficients = ap (λ xs. length xs - 1) c.coefficients.ensures.value in
    let same = c.prime.ensures.value in
    let column = subst (λ p. IsColumn (residues p) (degree f.coefficients) numbers) same (subst (λ m. IsColumn (residues c.prime.result) m numbers) n at.column) in
    c.of_slice.ensures ∙ c.as_slice.ensures.value
    ∙ column_from_power f c.prime.ensures.whole c.requires.monic c.requires.not_constant c.args.k g numbers c.requires.place c.requires.power column
    (λ i l. subst (λ p. slice_index numbers i ≡ (mod_ops p).add (slice_index g i) ((mod_ops p).neg (if i == c.args.k then 1 else 0))) same
    (at.places i (omega arith)))
