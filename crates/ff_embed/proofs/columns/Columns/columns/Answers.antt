use Rattle.std.proofs.Common.{subst}
use Rattle.ff_matrix.specs.ModularMatrix.{IsModularMatrix}
use Rattle.ff_embed.proofs.ColumnTables.{columns_modular}
use Rattle.ff_embed.proofs.columns.Columns.columns.Goals as goal

pub returns-clause-whole : goal.returns-clause-whole
returns-clause-whole c = let s = c.self.inside in
    subst IsModularMatrix c.self.view_is (columns_modular s.prime s.rows s.count s.table c.self.invariant)
