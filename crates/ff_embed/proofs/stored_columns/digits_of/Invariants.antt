use Rattle.ff_embed.specs.PrivateColumns.{IsListed}
use Rattle.ff_embed.proofs.stored_columns.digits_of.Given as goal

abbrev pub invariant-loop-k : goal.invariant-loop-k
invariant-loop-k l = IsListed l.columns l.k l.digits.items
