use Rattle.std.proofs.Common.{arith}
use Rattle.ff_matrix.proofs.ResidueRows.{one_more_sum, all_sums}
use Rattle.ff_matrix.proofs.elimination.widen_rows.Goals as goal

pub loop-i-preserved : goal.loop-i-preserved
loop-i-preserved g c =
    one_more_sum g.row.W c.args.p c.loop-i.i c.args.rows.now c.loop-i.sums c.of.result c.index-rows-i.result
    (omega (arith, c.loop-i-test.true)) c.of.ensures.prime c.index-rows-i.is c.requires.residues c.of.ensures.residues c.loop-i.invariant

pub returns-clause-same : goal.returns-clause-same
returns-clause-same g c = all_sums g.row.W c.args.p c.loop-i.i c.args.rows.now c.loop-i.sums (omega (arith, c.loop-i-test.false)) c.loop-i.invariant
