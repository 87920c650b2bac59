use Rattle.std.proofs.Common.{◌≡◌, ℕ, subst, arith}
use Rattle.ff_matrix.proofs.PivotPlaces.{AreFreeBelow, free_pivot, free_more, free_end}
use Rattle.ff_matrix.proofs.solutions.free_columns.Goals as goal
use Rattle.ff_matrix.proofs.solutions.free_columns.Goals.{then-next-pivots+then-pivots-next, else-next-pivots, else-next-pivots-via-then-next-pivots+else-pivots-next, else-next-pivots-via-else-next-pivots}

pub loop-k-preserved : goal.loop-k-preserved
loop-k-preserved c =
    elim c.if-next-pivots.branch [
      | then-next-pivots+then-pivots-next w ↦
          rw (w.free-is, w.next-is)
          (free_pivot c.args.n c.loop-k.k c.loop-k.next c.args.pivots.now c.loop-k.free c.requires.pivots w.if-next-pivots.true w.if-pivots-next.true c.loop-k.invariant)
      | else-next-pivots w ↦
          rw (w.free-is, w.next-is, w.push.ensures)
          (free_more c.args.n c.loop-k.k c.loop-k.next c.args.pivots.now c.loop-k.free c.requires.pivots
          (elim w.else-next-pivots.branch [
            | else-next-pivots-via-then-next-pivots+else-pivots-next w' ↦ λ l. w'.if-pivots-next.false
            | else-next-pivots-via-else-next-pivots w' ↦ λ l. absurd (omega arith)
          ]) c.loop-k.invariant)
    ]

pub returns : goal.returns
returns c =
    let done : c.loop-k.k ≡ c.args.n = omega arith in
    let P : ℕ → Type 0 = λ k. AreFreeBelow c.args.pivots.now c.loop-k.free c.loop-k.next k in
    free_end c.args.n c.loop-k.next c.args.pivots.now c.loop-k.free c.requires.pivots (subst P done c.loop-k.invariant)
