use Rattle.std.proofs.Common.{◌≡◌, ℕ, List, [], length, map, set, ap, sym, ◌∙◌, subst, arith, length-set}
use Rattle.std.proofs.lemmas.List.{get_or_read}
use Rattle.arrayvec.proofs.ArrayVecLemmas.{items-with_items}
use Rattle.alg_model.specs.Coefficients.{mod_ops}
use Rattle.alg_model.specs.Matrices.{column_at}
use Rattle.ff_matrix.specs.PrivateRows.{IsKernelColumn}
use Rattle.ff_matrix.proofs.PivotPlaces.{kernel_column_read}
use Rattle.ff_matrix.proofs.solutions.kernel_column.Goals as goal

pub returns : goal.returns
returns c =
    let column : c.numbers.result.now ≡ column_at c.args.form.now.matrix c.args.f =
    c.numbers.ensures.value ∙ get_or_read c.args.form.now.matrix.columns c.args.f c.index-items-f.result c.requires.free
    (rw c.items.ensures.value at c.index-items-f.is) [] in
    let negatives : c.numbers-2.result.now ≡ map (λ x. (mod_ops c.args.form.now.prime).neg x) c.numbers.result.now =
    c.numbers-2.ensures.value ∙ (rw c.prime-p.ensures.value at c.negatives-values.ensures.value) in
    let written : c.of_slice.result ≡ set c.spread-numbers.result.items c.args.f 1 =
    c.of_slice.ensures ∙ c.deref.ensures.0
    ∙ items-with_items c.spread-numbers.result (set c.deref_mut.result.now c.args.f 1)
    (omega (arith, length-set c.deref_mut.result.now c.args.f 1, ap length c.deref_mut.ensures.value))
    ∙ ap (λ xs. set xs c.args.f 1) c.deref_mut.ensures.value in
    let P : List ℕ → Type 0 = λ xs. IsKernelColumn c.args.form.now.prime c.args.form.now.matrix c.args.pivots.now c.args.f xs in
    subst P (sym written)
    (kernel_column_read c.args.form.now.prime c.args.f c.args.form.now.matrix c.args.pivots.now c.numbers.result.now c.numbers-2.result.now c.spread-numbers.result.items
    (omega (arith, c.number-number.ensures.small, c.number-number.ensures.value, c.prime-p.ensures.value))
    c.prime-p.ensures.whole.entries c.requires.free c.requires.no_pivot c.requires.rows_enough column negatives
    (rw c.numbers-2.ensures.value (rw c.prime-p.ensures.value at c.negatives-values.ensures.residues))
    (c.spread-numbers.ensures.long ∙ c.columns-columns.ensures.value) c.spread-numbers.ensures.at c.spread-numbers.ensures.zero c.spread-numbers.ensures.residues)
