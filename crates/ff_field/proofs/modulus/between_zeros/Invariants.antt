use Rattle.ff_field.proofs.RowProducts.{Placed}
use Rattle.ff_field.proofs.modulus.between_zeros.Given as goal

abbrev pub invariant-loop-k : goal.invariant-loop-k
invariant-loop-k g l = Placed g.row.W 144 l.digits l.list l.k
