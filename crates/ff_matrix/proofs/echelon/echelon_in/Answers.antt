use Rattle.std.proofs.Common.{◌∙◌}
use Rattle.ff_matrix.proofs.EliminatedRows.{reduction_read}
use Rattle.ff_matrix.proofs.echelon.echelon_in.Goals as goal

pub returns : goal.returns
returns g c = record {
  matrix = c.prime-p.ensures.whole;
  form = c.block.ensures.whole;
  transform = c.block-2.ensures.whole;
  form_prime = c.block.ensures.prime ∙ c.prime-p.ensures.value;
  transform_prime = c.block-2.ensures.prime ∙ c.prime-p.ensures.value;
  reduction = reduction_read g.row.W c.prime-p.result c.args.m.now.prime c.columns-columns.result c.args.m.now.matrix c.augment.new.rows c.reduce-pivots.new.rows
      c.reduce-pivots.result c.block.result.matrix c.block-2.result.matrix c.prime-p.ensures.value c.columns-columns.ensures.value c.prime-p.ensures.whole c.requires.room
      c.augment.ensures c.reduce-pivots.ensures.rows c.reduce-pivots.ensures.reduced
      c.block.ensures.rows c.block.ensures.columns c.block-2.ensures.rows c.block-2.ensures.columns;
}
