use Rattle.std.proofs.Common.{length, ap, sym, ◌∙◌, subst}
use Rattle.ff_matrix.specs.ModularMatrix.{IsModularMatrix}
use Rattle.ff_embed.proofs.DigitColumns.{length_columns_at, digits_modular}
use Rattle.ff_embed.proofs.stored_columns.StoredColumns.count.Goals as goal

pub returns-clause-value : goal.returns-clause-value
returns-clause-value c = let s = c.self.inside in
    sym (length_columns_at s.rows s.count s.digits.items)
    ∙ ap (λ m. length m.matrix.columns) c.self.view_is

pub returns-clause-whole : goal.returns-clause-whole
returns-clause-whole c = let s = c.self.inside in
    subst IsModularMatrix c.self.view_is
    (digits_modular s.prime s.rows s.count s.digits.items c.self.invariant)
