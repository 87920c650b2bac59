use Rattle.std.proofs.Common.{length, refl, ap, arith}
use Rattle.ff_matrix.proofs.ResidueRows.{reduced_with_pivot, reduced_without_pivot}
use Rattle.ff_matrix.proofs.elimination.reduce_column.Goals as goal

pub returns-in-Some-clause-reduced : goal.returns-in-Some-clause-reduced
returns-in-Some-clause-reduced g c =
    rw c.push.ensures
    (reduced_with_pivot g.row.W c.args.p c.args.column _ c.in-Some.s c.args.rows.now c.place_pivot.new.rows c.clear_column.new.rows c.args.pivots.now
    (ap length c.numbers-first.ensures.value) c.in-Some.ensures.some.0 c.in-Some.ensures.some.1 c.requires.sums c.requires.column.0
    c.place_pivot.ensures.placed c.clear_column.ensures.sums
    (omega (arith, c.clear_column.auto.rows, c.place_pivot.ensures.count)) c.clear_column.ensures.cleared)

pub returns-in_default-clause-reduced : goal.returns-in_default-clause-reduced
returns-in_default-clause-reduced g c =
    reduced_without_pivot g.row.W c.args.p c.args.column _ c.args.rows.now c.args.pivots.now (ap length c.numbers-first.ensures.value)
    (c.in_default.ensures.none refl)
