use Rattle.std.proofs.Common.{List, ℕ, sym, subst, arith}
use Rattle.ff_matrix.specs.PrivateRows.{AreRows, Eliminates, residue_rows}
use Rattle.ff_matrix.proofs.ResidueRows.{sums_are_rows}
use Rattle.ff_matrix.proofs.elimination.reduce.Goals as goal

pub returns-clause-rows : goal.returns-clause-rows
returns-clause-rows g c =
    subst (AreRows g.row.W c.args.p) (sym c.narrow_rows.ensures.same)
    (sums_are_rows g.row.W c.args.p c.reduce_sums-pivots.new.rows (omega (arith, c.number-number.ensures.small, c.number-number.ensures.value)) c.reduce_sums-pivots.ensures.sums)

pub returns-clause-reduced : goal.returns-clause-reduced
returns-clause-reduced g c =
    let E : List (List ℕ) → List (List ℕ) → Type 0 = λ old new. Eliminates g.row.W c.args.p c.args.columns old new c.reduce_sums-pivots.result in
    subst (E c.args.rows.now) (sym c.narrow_rows.ensures.same)
    (subst (λ old. E old (residue_rows g.row.W c.reduce_sums-pivots.new.rows)) c.widen_rows.ensures.same c.reduce_sums-pivots.ensures.reduced)
