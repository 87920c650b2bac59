use Rattle.std.proofs.Common.{◌+◌, ◌%◌, ◌<◌, length, ap, ap₂, sym, ◌∙◌, arith}
use native.Mathlib.Nat.{zero-add}
use Rattle.alg_galois.proofs.Fields.{modulus_of, generator_valid}
use Rattle.ff_residues.specs.SumRows.{row_sum}
use Rattle.ff_field.proofs.FrobeniusColumns.{frobenius_by_columns}
use Rattle.ff_field.proofs.fields.Field.image_row.Goals as goal

pub returns-clause-places : goal.returns-clause-places
returns-clause-places g c k l =
    let K = c.args.self.now in
    let W = c.degree-degree.ensures.whole.finite in
    let a = c.args.a.now in
    let columns = c.frobenius.result.now in
    let sum = row_sum (length a) a columns k in
    let m : k < g.row.W = omega (arith, c.requires.fits) in
    let x = generator_valid K.characteristic W.characteristic K.polynomial (modulus_of K W) in
    c.row.ensures.row k ∙ c.add_rows.ensures.sums k m
    ∙ ap₂ (λ r q. (r + sum) % q) (c.zeros-sums.ensures.residues k)
    (c.zeros-sums.ensures.prime ∙ c.prime.ensures.value)
    ∙ ap (λ w. w % K.characteristic) (zero-add sum)
    ∙ sym (frobenius_by_columns K W x columns c.frobenius.ensures a c.requires.valid k l)
