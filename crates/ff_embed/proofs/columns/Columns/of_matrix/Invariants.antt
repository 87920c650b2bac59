use Rattle.std.proofs.Common.{◌≡◌, take}
use Rattle.ff_embed.proofs.columns.Columns.of_matrix.Given as goal

abbrev pub invariant-loop-column : goal.invariant-loop-column
invariant-loop-column l = record {
  prime : l.columns.prime ≡ l.m.prime;
  rows : l.columns.matrix.rows ≡ l.m.matrix.rows;
  columns : l.columns.matrix.columns ≡ take l.column-index l.m.matrix.columns;
}
