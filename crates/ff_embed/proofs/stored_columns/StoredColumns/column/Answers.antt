use Rattle.std.proofs.Common.{◌≡◌, ◌*◌, [], length, take, drop, slice_index_or, ap, ap₂, sym, ◌∙◌, arith}
use Rattle.ff_matrix.specs.ModularMatrix.{ModularMatrix}
use Rattle.ff_embed.proofs.DigitColumns.{length_columns_at, column_at, column_within}
use Rattle.ff_embed.proofs.stored_columns.StoredColumns.column.Goals as goal

pub slice_bounds-result-end : goal.slice_bounds-result-end
slice_bounds-result-end c =
    let s = c.self.inside in
    let count : length c.args.self.now.matrix.columns ≡ s.count =
    ap (λ (m : ModularMatrix). length m.matrix.columns) (sym c.self.view_is)
    ∙ length_columns_at s.rows s.count s.digits.items in
    omega (
      arith,
      ap length c.as_slice-digits.ensures.value,
      column_within s.rows s.count s.digits.items (omega (arith, c.self.invariant.long)) c.args.k
          (omega (arith, c.requires, count)),
    )

pub returns-clause-value : goal.returns-clause-value
returns-clause-value c =
    let s = c.self.inside in
    let count : length c.args.self.now.matrix.columns ≡ s.count =
    ap (λ (m : ModularMatrix). length m.matrix.columns) (sym c.self.view_is)
    ∙ length_columns_at s.rows s.count s.digits.items in
    ap₂ (λ n xs. take n (drop (c.args.k * s.rows) xs)) (omega arith) c.as_slice-digits.ensures.value
    ∙ sym (column_at s.rows s.count s.digits.items c.args.k (omega (arith, c.requires, count)))
    ∙ ap (λ (m : ModularMatrix). slice_index_or m.matrix.columns c.args.k []) c.self.view_is
