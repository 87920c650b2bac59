use Rattle.std.proofs.Common.{subst}
use Rattle.ff_matrix.specs.ModularMatrix.{IsModularMatrix}
use Rattle.ff_embed.proofs.DigitColumns.{digits_modular}
use Rattle.ff_embed.proofs.stored_columns.StoredColumns.rows.Goals as goal

pub returns-clause-whole : goal.returns-clause-whole
returns-clause-whole c = let s = c.self.inside in
    subst IsModularMatrix c.self.view_is
    (digits_modular s.prime s.rows s.count s.digits.items c.self.invariant)
