use Rattle.std.proofs.Common.{◌≡◌, take}
use Rattle.ff_embed.proofs.stored_columns.StoredColumns.columns.Given as goal

abbrev pub invariant-loop-k : goal.invariant-loop-k
invariant-loop-k l = record {
  prime : l.columns.prime ≡ l.self.prime;
  rows : l.columns.matrix.rows ≡ l.self.matrix.rows;
  columns : l.columns.matrix.columns ≡ take l.k l.self.matrix.columns;
}
