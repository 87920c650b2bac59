use Rattle.std.proofs.Common.{◌≡◌, suc, ◌+◌, ◌<◌, slice_index, All, ap, ap₂, sym, ◌∙◌, subst, arith}
use Rattle.alg_model.specs.Coefficients.{power}
use Rattle.alg_model.specs.Maps.{field_values, generator, degree_of}
use Rattle.ff_poly.specs.declared.TheConstants.{MAX_DEGREE}
use Rattle.ff_residues.specs.SumRows.{IsRowOf}
use Rattle.ff_field.proofs.RemainderRows.{zeros_row, no_rows, one_row}
use Rattle.ff_field.proofs.FrobeniusColumns.{digit_reduced}
use Rattle.ff_field.proofs.frobenius.frobenius_columns.Goals as goal

pub loop-i-init : goal.loop-i-init
loop-i-init c =
    let K = c.args.modulus.now in
    let p = K.characteristic in
    let positive : 0 < p = omega (arith, c.number.ensures.small, c.number.ensures.value, c.prime-p.ensures.value) in
    record {
      table = no_rows p (degree_of K) _ c.repeated-table.result c.repeated-table.ensures.len
          (c.repeated-table.ensures.rows p
          (zeros_row p c.zeros.result positive c.zeros.ensures.len c.zeros.ensures.blank));
      value = c.one-value.ensures.value;
      valid = c.one-value.ensures.valid;
    }

pub row_of-requires-clause-residues : goal.row_of-requires-clause-residues
row_of-requires-clause-residues c =
    subst (λ q. All (λ x. x < q) c.digits.result.now) (sym c.prime-p.ensures.value)
    (subst (λ v. All (λ x. x < c.args.modulus.now.characteristic) v) (sym c.digits.ensures.value)
    c.loop-i.invariant.valid.0)

pub loop-i-preserved : goal.loop-i-preserved
loop-i-preserved c =
    let K = c.args.modulus.now in
    let W = c.prime-p.ensures.whole.finite in
    let p = K.characteristic in
    let o = (field_values K).ops in
    let h = c.loop-i.invariant in
    let i = c.loop-i.i in
    let made = c.row_of.ensures in
    let root = power o (generator K) p in
    let next : suc i ≡ i + 1 = omega arith in
    let exponent : c.number.result ≡ p = c.number.ensures.value ∙ c.prime-p.ensures.value in
    let root_is : c.pow-root.result ≡ root =
    c.pow-root.ensures.value ∙ ap₂ (power o) c.generator.ensures.value exponent in
    record {
      table = one_row p (degree_of K) i (λ j. slice_index (power o root j)) c.loop-i.table c.row_of.result
          (omega arith) (subst (λ q. IsRowOf q MAX_DEGREE c.row_of.result) c.prime-p.ensures.value made.row)
          (λ k m. made.places k ∙ ap (λ v. slice_index v k) (c.digits.ensures.value ∙ h.value)
          ∙ digit_reduced K W (power o root i) (subst (field_values K).Valid h.value h.valid) k)
          h.table;
      value = c.mul-value.ensures.value ∙ ap₂ o.mul h.value root_is ∙ ap (power o root) next;
      valid = c.mul-value.ensures.valid;
    }
