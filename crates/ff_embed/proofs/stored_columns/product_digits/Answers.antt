use Rattle.std.proofs.Common.{◌+◌, ◌<◌, [], length, ap, sym, ◌∙◌, subst, arith}
use Rattle.std.proofs.lemmas.List.{length-map, get_or-map}
use Rattle.alg_model.specs.Coefficients.{residues, mod_ops}
use Rattle.alg_model.specs.Matrices.{matrix_apply, IsColumn}
use Rattle.ff_embed.specs.PrivateColumns.{IsListed, product_of}
use Rattle.ff_embed.proofs.DigitColumns.{listed_more}
use Rattle.ff_embed.proofs.stored_columns.product_digits.Goals as goal

pub loop-k-preserved : goal.loop-k-preserved
loop-k-preserved c =
    let k = c.loop-k.k in
    let a = c.args.a.now in
    let b = c.args.b.now in
    let f = matrix_apply (mod_ops a.prime) a.matrix in
    let l : k < length b.matrix.columns = omega (arith, c.count-count.ensures.value, c.loop-k-test.true) in
    subst (IsListed (product_of a b) (k + 1)) (sym c.in_ok-extend_from_slice.ensures.items)
    (listed_more (product_of a b) k c.loop-k.digits.items c.digits.result.now c.loop-k.invariant
    (omega (arith, l, length-map b.matrix.columns f))
    (c.digits.ensures.value ∙ c.apply.ensures.value ∙ ap f c.column.ensures.value
    ∙ sym (get_or-map f b.matrix.columns k [] [] l))
    (subst (IsColumn (residues a.prime) a.matrix.rows) (sym c.digits.ensures.value) c.apply.ensures.column))
