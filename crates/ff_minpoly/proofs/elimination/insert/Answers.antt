use Rattle.std.proofs.Common.{◌≡◌, ◌+◌, ◌<◌, [], ◌∷◌, ◌++◌, length, slice_set, sym, subst, suc, arith}
use Rattle.ff_minpoly.specs.PrivateSpans.{IsSpan}
use Rattle.ff_minpoly.proofs.Spans.{column_inserted}
use Rattle.ff_minpoly.proofs.elimination.insert.Goals as goal

pub returns-clause-inserted : goal.returns-clause-inserted
returns-clause-inserted g c n m col is l S R =
    let w = g.row.W in
    let p = c.args.p in
    let new = c.normal_row-normal.result in
    let above : 1 < p = omega (arith, c.number-number.ensures.small, c.number-number.ensures.value) in
    let more : suc m ≡ m + 1 = omega arith in
    let fits : n + m < w = omega (arith, c.requires.places, is) in
    subst (λ ps. IsSpan w p n (m + 1) col (slice_set c.args.rows.now (length c.items.result.now) new) ps)
    (sym c.push.ensures)
    (subst (λ q. IsSpan w p n (m + 1) col (slice_set c.args.rows.now (length q) new) (c.args.pivots.now ++ c.args.pivot ∷ []))
    (sym c.items.ensures.value)
    (subst (λ q. IsSpan w p n q col (slice_set c.args.rows.now (length c.args.pivots.now) new) (c.args.pivots.now ++ c.args.pivot ∷ [])) more
    (column_inserted w p n m col c.args.rows.now c.args.pivots.now c.args.row.now new c.args.pivot c.args.place
    above is fits l c.requires.room.0 S R c.normal_row-normal.ensures.normal)))
