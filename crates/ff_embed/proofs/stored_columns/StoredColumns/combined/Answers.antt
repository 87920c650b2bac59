use Rattle.std.proofs.Common.{◌≡◌, ◌+◌, ◌*◌, ◌%◌, slice_index, ◌<◌, ◌≤◌, All, length, take, ap, ap₂, sym, ◌∙◌, subst, arith}
use Rattle.alg_model.specs.Coefficients.{mod_ops}
use Rattle.alg_model.specs.Matrices.{matrix_apply}
use Rattle.ff_residues.specs.SumRows.{sum_below}
use Rattle.ff_matrix.specs.ModularMatrix.{ModularMatrix}
use Rattle.ff_embed.proofs.DigitColumns.{length_columns_at, given_row}
use Rattle.ff_embed.proofs.stored_columns.StoredColumns.combined.Goals as goal

pub added_columns-sums-requires : goal.added_columns-sums-requires
added_columns-sums-requires g c =
    let s = c.self.inside in
    let x = c.args.x.now in
    let rows : c.rows-n.result ≡ s.rows =
    c.rows-n.ensures.value ∙ ap (λ (m : ModularMatrix). m.matrix.rows) (sym c.self.view_is) in
    let count : length x ≡ s.count =
    c.requires.column.0 ∙ ap (λ (m : ModularMatrix). length m.matrix.columns) (sym c.self.view_is)
    ∙ length_columns_at s.rows s.count s.digits.items in (
      omega arith,
      (
        c.requires.width,
        (
          subst (λ (m : ModularMatrix). All (λ y. y < m.prime) x) (sym c.self.view_is)
              c.requires.column.1,
          (
            subst (All (λ y. y < s.prime)) (sym c.as_slice.ensures.value) c.self.invariant.residues,
            omega (
              arith,
              c.requires.width,
              ap length c.as_slice.ensures.value ∙ c.self.invariant.long,
              ap₂ ◌*◌ count rows,
            ),
          ),
        ),
      ),
    )

pub returns-clause-value : goal.returns-clause-value
returns-clause-value g c =
    let s = c.self.inside in
    let A = c.self.invariant in
    let x = c.args.x.now in
    let rows : c.rows-n.result ≡ s.rows =
    c.rows-n.ensures.value ∙ ap (λ (m : ModularMatrix). m.matrix.rows) (sym c.self.view_is) in
    let count : length x ≡ s.count =
    c.requires.column.0 ∙ ap (λ (m : ModularMatrix). length m.matrix.columns) (sym c.self.view_is)
    ∙ length_columns_at s.rows s.count s.digits.items in
    let fits : s.rows ≤ g.row.W = omega (arith, rows, c.rows-n.ensures.value, c.requires.fits) in
    c.of_digits.ensures ∙ ap (λ n. take n c.row.result) rows
    ∙ given_row s.prime s.rows s.count s.digits.items A x count c.row.result
    (omega (arith, c.row.ensures.len, fits))
    (λ k l. c.row.ensures.row k ∙ c.added_columns-sums.ensures.sums k (omega (arith, fits, l))
    ∙ ap₂ (λ ds n. sum_below (length x) (λ i. slice_index x i * slice_index ds (i * n + k)) % s.prime)
    c.as_slice.ensures.value rows)
    ∙ ap (λ (m : ModularMatrix). matrix_apply (mod_ops m.prime) m.matrix x) c.self.view_is
