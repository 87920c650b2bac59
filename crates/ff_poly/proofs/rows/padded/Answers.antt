use Rattle.std.proofs.Common.{◌≡◌, ℕ, ◌+◌, ◌<◌, slice_index, ◌∙◌, sym, ⊎_elim, arith}
use Rattle.std.proofs.lemmas.Bool.{cases_lt}
use Rattle.std.proofs.lemmas.List.{get_or_past}
use Rattle.std.proofs.lemmas.List.Elements.{All-from_get_or}
use Rattle.ff_residues.proofs.ResidueLists.{below_at}
use Rattle.ff_poly.proofs.ListPlaces.{place_cases}
use Rattle.ff_poly.proofs.rows.padded.Goals as goal
use Rattle.ff_poly.proofs.rows.padded.Goals.{After-loop-i}
use Rattle.ff_poly.proofs.rows.padded.Given.{Over}

same : (g : Over) (c : After-loop-i g) (k : ℕ) → slice_index c.loop-i.row (g.row.W + k) ≡ slice_index c.args.c.now k
same g c k = ⊎_elim
    (λ l. c.loop-i.invariant.done k l)
    (λ l. c.loop-i.invariant.rest k l ∙ sym (get_or_past c.args.c.now k 0 (omega (arith, c.loop-i-test.false))))
    (cases_lt k c.loop-i.i)

pub returns-clause-padded : goal.returns-clause-padded
returns-clause-padded g c = record {
  count = c.loop-i.invariant.len ∙ c.requires.sizes;
  before = c.loop-i.invariant.before;
  places = λ k. same g c k;
}

pub returns-clause-residues : goal.returns-clause-residues
returns-clause-residues g c =
    let p = c.args.p in
    let positive : 0 < p = omega (arith, c.number-number.ensures.small, c.number-number.ensures.value) in
    All-from_get_or (λ x. x < p) c.loop-i.row 0 (λ k l. place_cases (λ m. slice_index c.loop-i.row m < p) g.row.W k
    (λ lk. let e = c.loop-i.invariant.before k lk in omega arith)
    (λ j. let e = same g c j in let h : slice_index c.args.c.now j < p = below_at p c.args.c.now j positive c.requires.residues in omega arith))
