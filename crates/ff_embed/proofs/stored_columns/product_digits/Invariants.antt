use Rattle.ff_embed.specs.PrivateColumns.{IsListed, product_of}
use Rattle.ff_embed.proofs.stored_columns.product_digits.Given as goal

abbrev pub invariant-loop-k : goal.invariant-loop-k
invariant-loop-k l = IsListed (product_of l.a l.b) l.k l.digits.items
