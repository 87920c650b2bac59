use Rattle.std.proofs.Common.{◌≡◌, take}
use Rattle.ff_embed.proofs.columns.Columns.matrix.Given as goal

abbrev pub invariant-loop-k : goal.invariant-loop-k
invariant-loop-k l = l.list ≡ take l.k l.self.matrix.columns
