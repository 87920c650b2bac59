use Rattle.std.proofs.Common.{◌≡◌, [], ◌∷◌, ◌++◌, length, ap, sym, ◌∙◌, arith}
use Rattle.ff_embed.proofs.ColumnTables.{length_columns, column_pushed, beginning_of_row}
use Rattle.ff_embed.proofs.columns.Columns.push.Goals as goal

pub returns-clause-columns : goal.returns-clause-columns
returns-clause-columns c =
    let s = c.self.inside in
    let is : length (c.args.self.now.matrix.columns) ≡ s.count =
    ap (λ m. length m.matrix.columns) (sym c.self.view_is)
    ∙ length_columns s.rows s.count s.table (omega (arith, c.self.invariant.long, c.self.invariant.columns_fit)) in
    column_pushed s.rows s.count s.table c.row_of.result c.args.column.now
    (omega (arith, is, c.requires.room, c.self.told))
    (beginning_of_row s.rows c.row_of.result c.args.column.now
    (c.requires.column.0 ∙ ap (λ m. m.matrix.rows) (sym c.self.view_is))
    (omega (arith, c.row_of.ensures.len, c.self.invariant.rows_fit)) (λ k _. c.row_of.ensures.places k))
    ∙ ap (λ m. m.matrix.columns ++ c.args.column.now ∷ []) c.self.view_is
