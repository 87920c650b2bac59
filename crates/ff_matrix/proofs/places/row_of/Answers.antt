use Rattle.std.proofs.Common.{◌≡◌, ℕ, ◌<◌, slice_index, ◌∙◌, sym, ⊎_elim, arith}
use Rattle.std.proofs.lemmas.Bool.{cases_lt}
use Rattle.std.proofs.lemmas.List.{get_or_past}
use Rattle.std.proofs.lemmas.List.Elements.{All-from_get_or}
use Rattle.ff_residues.proofs.ResidueLists.{below_at}
use Rattle.ff_matrix.proofs.places.row_of.Goals as goal
use Rattle.ff_matrix.proofs.places.row_of.Goals.{After-loop-i}
use Rattle.ff_matrix.proofs.places.row_of.Given.{Over}

same : (g : Over) (c : After-loop-i g) (k : ℕ) → slice_index c.loop-i.row k ≡ slice_index c.args.c.now k
same g c k = ⊎_elim
    (λ l. c.loop-i.invariant.done k l)
    (λ l. c.loop-i.invariant.rest k l ∙ sym (get_or_past c.args.c.now k 0 (omega (arith, c.loop-i-test.false))))
    (cases_lt k c.loop-i.i)

pub returns-clause-places : goal.returns-clause-places
returns-clause-places g c k = same g c k

pub returns-clause-residues : goal.returns-clause-residues
returns-clause-residues g c =
    let p = c.args.p in
    let positive : 0 < p = omega (arith, c.number-number.ensures.small, c.number-number.ensures.value) in
    All-from_get_or (λ x. x < p) c.loop-i.row 0 (λ k l. let e = same g c k in let h : slice_index c.args.c.now k < p = below_at p c.args.c.now k positive c.requires.residues in omega arith)
