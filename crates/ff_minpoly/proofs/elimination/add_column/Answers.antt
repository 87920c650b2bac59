use Rattle.std.proofs.Common.{◌≡◌, ◌+◌, ◌<◌, length, slice_index, refl, sym, subst, suc, arith}
use Rattle.ff_minpoly.specs.PrivateSpans.{IsSpan, IsReduced}
use Rattle.ff_minpoly.proofs.Spans.{column_skipped, reduced_same}
use Rattle.ff_minpoly.proofs.elimination.add_column.Goals as goal

pub returns-in-Some-clause-added : goal.returns-in-Some-clause-added
returns-in-Some-clause-added g c col S h =
    let w = g.row.W in
    let p = c.args.p in
    let m = c.args.m in
    let n = length c.args.column.now in
    let r = slice_index c.reduced-row.result in
    c.insert.ensures.inserted n m col refl c.in-Some.ensures.some.0 S
    (reduced_same w p n m col c.args.pivots.now (slice_index c.args.column.now) (col m) r h
    (subst (λ q. IsReduced w p n m col q (slice_index c.args.column.now) r) c.items.ensures.value
    (c.reduced-row.ensures.reduced m col
    (subst (λ q. IsSpan w p n m col c.args.rows.now q) (sym c.items.ensures.value) S))))

pub returns-in_default-clause-added : goal.returns-in_default-clause-added
returns-in_default-clause-added g c col S h =
    let w = g.row.W in
    let p = c.args.p in
    let m = c.args.m in
    let n = length c.args.column.now in
    let r = slice_index c.reduced-row.result in
    let positive : 0 < p = omega (arith, c.number-number.ensures.small, c.number-number.ensures.value) in
    let more : suc m ≡ m + 1 = omega arith in
    subst (λ q. IsSpan w p n q col c.args.rows.now c.args.pivots.now) more
    (column_skipped w p n m col c.args.rows.now c.args.pivots.now r positive c.requires.room.0 S
    (reduced_same w p n m col c.args.pivots.now (slice_index c.args.column.now) (col m) r h
    (subst (λ q. IsReduced w p n m col q (slice_index c.args.column.now) r) c.items.ensures.value
    (c.reduced-row.ensures.reduced m col
    (subst (λ q. IsSpan w p n m col c.args.rows.now q) (sym c.items.ensures.value) S))))
    (c.in_default.ensures.none refl))
