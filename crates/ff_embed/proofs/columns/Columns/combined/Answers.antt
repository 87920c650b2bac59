use Rattle.std.proofs.Common.{◌≡◌, ◌+◌, ◌%◌, ◌<◌, ◌≤◌, length, take, ap, ap₂, sym, ◌∙◌, arith}
use native.Mathlib.Nat.{zero-add}
use Rattle.alg_model.specs.Coefficients.{mod_ops}
use Rattle.alg_model.specs.Matrices.{matrix_apply}
use Rattle.ff_matrix.specs.ModularMatrix.{ModularMatrix}
use Rattle.ff_residues.specs.SumRows.{row_sum}
use Rattle.ff_embed.proofs.ColumnTables.{length_columns, applied_row}
use Rattle.ff_embed.proofs.columns.Columns.combined.Goals as goal

pub returns-clause-value : goal.returns-clause-value
returns-clause-value g c =
    let s = c.self.inside in
    let A = c.self.invariant in
    let x = c.args.x.now in
    let rows : c.rows-n.result ≡ s.rows =
    c.rows-n.ensures.value ∙ ap (λ m. m.matrix.rows) (sym c.self.view_is) in
    let count : length x ≡ s.count =
    c.requires.column.0 ∙ ap (λ m. length m.matrix.columns) (sym c.self.view_is)
    ∙ length_columns s.rows s.count s.table (omega (arith, A.long, A.columns_fit)) in
    let fits : s.rows ≤ g.row.W = omega (arith, rows, c.rows-n.ensures.value, c.requires.fits) in
    c.of_digits.ensures ∙ ap (λ n. take n c.row.result) rows
    ∙ applied_row s.prime s.rows s.count s.table A x count c.row.result
    (omega (arith, c.row.ensures.len, fits))
    (λ k l. let w : k < g.row.W = omega (arith, fits) in
    let sum = row_sum (length x) x s.table k in
    c.row.ensures.row k ∙ c.add_rows.ensures.sums k w
    ∙ ap₂ (λ r q. (r + sum) % q) (c.zeros-sums.ensures.residues k) c.zeros-sums.ensures.prime
    ∙ ap (λ w. w % s.prime) (zero-add sum))
    ∙ ap (λ (m : ModularMatrix). matrix_apply (mod_ops m.prime) m.matrix x) c.self.view_is
