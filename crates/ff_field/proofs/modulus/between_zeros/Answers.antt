use Rattle.ff_field.proofs.RowProducts.{between_residues, all_placed}
use Rattle.std.proofs.Common.{arith}
use Rattle.ff_field.proofs.modulus.between_zeros.Goals as goal

pub returns-clause-residues : goal.returns-clause-residues
returns-clause-residues g c p positive v =
    between_residues p g.row.W c.args.digits.now c.loop-k.list positive v c.loop-k.invariant.before
    (all_placed g.row.W 144 c.args.digits.now c.loop-k.list c.loop-k.k
    (omega (arith, c.loop-k-test.false)) c.loop-k.invariant)
