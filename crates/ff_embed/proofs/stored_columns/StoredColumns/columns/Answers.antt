use Rattle.std.proofs.Common.{[], ◌∷◌, ◌++◌, ap₂, sym, ◌∙◌, arith}
use Rattle.std.proofs.lemmas.List.{take_more}
use Rattle.ff_embed.proofs.stored_columns.StoredColumns.columns.Goals as goal

pub loop-k-preserved : goal.loop-k-preserved
loop-k-preserved c = record {
  prime = c.push.ensures.prime ∙ c.loop-k.invariant.prime;
  rows = c.push.ensures.rows ∙ c.loop-k.invariant.rows;
  columns = c.push.ensures.columns
      ∙ ap₂ (λ xs x. xs ++ x ∷ []) c.loop-k.invariant.columns c.column.ensures.value
      ∙ sym (take_more c.args.self.now.matrix.columns c.loop-k.k []
      (omega (arith, c.count-count.ensures.value, c.loop-k-test.true)));
}
