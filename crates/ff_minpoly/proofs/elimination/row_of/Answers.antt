use Rattle.std.proofs.Common.{◌≡◌, ℕ, ◌<◌, slice_index, ◌∙◌, sym, ⊎_elim, arith, rules}
use Rattle.std.proofs.lemmas.Bool.{cases_lt}
use Rattle.std.proofs.lemmas.List.{get_or_past}
use Rattle.std.proofs.lemmas.List.Elements.{All-from_get_or}
use Rattle.ff_residues.proofs.ResidueLists.{below_at}
use Rattle.ff_residues.proofs.ChangedPlaces.{nothing_changed, one_changed}
use Rattle.ff_minpoly.proofs.elimination.row_of.Goals as goal
use Rattle.ff_minpoly.proofs.elimination.row_of.Goals.{After-loop-k}
use Rattle.ff_minpoly.proofs.elimination.row_of.Given.{Over}

pub loop-k-init : goal.loop-k-init
loop-k-init g c = nothing_changed g.row.W _ c.blank_row-row.result c.blank_row-row.ensures.len

pub loop-k-preserved : goal.loop-k-preserved
loop-k-preserved g c =
    one_changed g.row.W (slice_index c.args.column.now) c.blank_row-row.result c.loop-k.row c.loop-k.k
    _ (omega (arith, c.loop-k-test.true, c.requires.room)) (search rules) c.loop-k.invariant

same : (g : Over) (c : After-loop-k g) (k : ℕ)
    → slice_index c.loop-k.row k ≡ slice_index c.args.column.now k
same g c k = ⊎_elim
    (λ l. c.loop-k.invariant.done k l)
    (λ l. c.loop-k.invariant.rest k l ∙ c.blank_row-row.ensures.blank k
    ∙ sym (get_or_past c.args.column.now k 0 (omega (arith, c.loop-k-test.false))))
    (cases_lt k c.loop-k.k)

pub returns-clause-places : goal.returns-clause-places
returns-clause-places g c k = same g c k

pub returns-clause-row : goal.returns-clause-row
returns-clause-row g c =
    let p = c.args.p in
    let positive : 0 < p = omega (arith, c.number-number.ensures.small, c.number-number.ensures.value) in (
      c.loop-k.invariant.long,
      All-from_get_or (λ x. x < p) c.loop-k.row 0 (λ k l.
          let e = same g c k in
          let h : slice_index c.args.column.now k < p = below_at p c.args.column.now k positive c.requires.residues in
          omega arith),
    )
