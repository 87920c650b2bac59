use Rattle.std.proofs.Common.{ℕ, length, get_or, set, refl, ap, arith, length-set}
use Rattle.arrayvec.proofs.ArrayVecLemmas.{items-with_items}
use Rattle.ff_matrix.proofs.PivotPlaces.{spread_more}
use Rattle.ff_matrix.proofs.solutions.spread.Goals as goal

pub loop-i-preserved : goal.loop-i-preserved
loop-i-preserved c =
    let place : ℕ = get_or c.args.places.now c.loop-i.i 0 in
    let x : ℕ = get_or c.args.values.now c.loop-i.i 0 in
    rw (
      items-with_items c.loop-i.numbers (set c.deref_mut.result.now place x)
          (omega (arith, length-set c.deref_mut.result.now place x, ap length c.deref_mut.ensures.value)),
      c.deref_mut.ensures.value,
    )
    (spread_more c.args.n c.args.places.now c.args.values.now c.loop-i.numbers.items c.loop-i.i x c.requires.places c.loop-i-test.true c.requires.values refl c.loop-i.invariant)
