use Rattle.std.proofs.Common.{◌+◌, sym, subst, arith}
use Rattle.ff_embed.specs.PrivateColumns.{IsListed}
use Rattle.ff_embed.proofs.DigitColumns.{listed_more}
use Rattle.ff_embed.proofs.stored_columns.digits_of.Goals as goal

pub loop-k-preserved : goal.loop-k-preserved
loop-k-preserved c =
    let k = c.loop-k.k in
    let m = c.args.columns.now in
    subst (IsListed m (k + 1)) (sym c.in_ok-extend_from_slice.ensures.items)
    (listed_more m k c.loop-k.digits.items c.column.result.now c.loop-k.invariant
    (omega (arith, c.columns-count.ensures.value, c.loop-k-test.true)) c.column.ensures.value
    c.column.ensures.column)
