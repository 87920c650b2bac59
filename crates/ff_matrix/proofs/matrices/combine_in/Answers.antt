use Rattle.std.proofs.Common.{◌≡◌, ℕ, [], length, drop, take, replicate, ap₂, sym, ◌∙◌, subst, arith, get_or-take, length-take}
use Rattle.std.proofs.lemmas.List.{get_or-replicate, length-replicate, nil_from_length, length-drop}
use Rattle.alg_model.specs.Coefficients.{mod_ops}
use Rattle.alg_model.specs.Matrices.{combination}
use Rattle.ff_matrix.specs.PrivateRows.{residue_row}
use Rattle.ff_matrix.proofs.ResidueRows.{residue_row_is}
use Rattle.ff_matrix.proofs.matrices.combine_in.Goals as goal

pub loop-k-init : goal.loop-k-init
loop-k-init g c =
    let p = c.args.p in
    let n = length c.args.c.now in
    let rows = c.args.rows in
    let first : drop n c.args.columns.now ≡ [] = nil_from_length (drop n c.args.columns.now) (omega (arith, length-drop n c.args.columns.now, c.requires.sizes)) in
    let second : drop n c.args.c.now ≡ [] = nil_from_length (drop n c.args.c.now) (omega (arith, length-drop n c.args.c.now)) in
    record {
      bound = omega arith;
      prime = c.of-sums.ensures.prime;
      value = residue_row_is rows c.of-sums.result (replicate rows 0) (length-replicate {A = ℕ} rows 0)
          (λ k l. get_or-replicate rows k 0 0 l ∙ sym (c.of-sums.ensures.residues k ∙ c.row_of.ensures.places k))
          ∙ sym (ap₂ (combination (mod_ops p) rows) first second);
    }

pub returns-clause-value : goal.returns-clause-value
returns-clause-value g c =
    let p = c.args.p in
    let rows = c.args.rows in
    let done : c.loop-k.k ≡ 0 = omega (arith, c.loop-k-test.false) in
    let V : ℕ → Type 0 = λ k. residue_row rows c.loop-k.sums ≡ combination (mod_ops p) rows (drop k c.args.columns.now) (drop k c.args.c.now) in
    c.of_slice.ensures
    ∙ sym (residue_row_is rows c.loop-k.sums (take rows c.row.result) (omega (arith, length-take rows c.row.result, c.row.ensures.len, c.requires.rows))
    (λ k l. get_or-take rows c.row.result k 0 l ∙ c.row.ensures.row k))
    ∙ subst V done c.loop-k.invariant.value
