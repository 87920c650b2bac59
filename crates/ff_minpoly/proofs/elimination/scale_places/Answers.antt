use Rattle.std.proofs.Common.{◌≡◌, ℕ, ◌*◌, ◌%◌, ◌<◌, slice_index, ap, sym, ◌∙◌, subst, arith}
use Rattle.std.proofs.lemmas.List.Elements.{All-from_get_or}
use Rattle.std.proofs.lemmas.Nat.{mod_below}
use Rattle.ff_residues.proofs.ChangedPlaces.{nothing_changed, one_changed}
use Rattle.ff_minpoly.proofs.elimination.scale_places.Goals as goal
use Rattle.ff_minpoly.proofs.elimination.scale_places.Goals.{After-loop-k}
use Rattle.ff_minpoly.proofs.elimination.scale_places.Given.{Over}

pub loop-k-init : goal.loop-k-init
loop-k-init g c = nothing_changed g.row.W _ c.args.row.now c.requires.row.0

pub loop-k-preserved : goal.loop-k-preserved
loop-k-preserved g c =
    one_changed g.row.W (λ k. (c.args.factor * slice_index c.args.row.now k) % c.args.p) c.args.row.now c.loop-k.row c.loop-k.k
    c.reduced.result (omega (arith, c.loop-k-test.true))
    (c.reduced.ensures.value ∙ ap (λ w. (c.args.factor * w) % c.args.p) (c.loop-k.invariant.rest c.loop-k.k (omega arith)))
    c.loop-k.invariant

scaled : (g : Over) (c : After-loop-k g) (k : ℕ) → k < g.row.W
    → slice_index c.loop-k.row k ≡ (c.args.factor * slice_index c.args.row.now k) % c.args.p
scaled g c k l = c.loop-k.invariant.done k (omega (arith, c.loop-k-test.false))

pub returns-clause-scaled : goal.returns-clause-scaled
returns-clause-scaled g c = scaled g c

pub returns-clause-row : goal.returns-clause-row
returns-clause-row g c =
    let p = c.args.p in
    let positive : 0 < p = omega (arith, c.number-number.ensures.small, c.number-number.ensures.value) in (
      c.loop-k.invariant.long,
      All-from_get_or (λ x. x < p) c.loop-k.row 0 (λ k l. subst (λ x. x < p)
          (sym (scaled g c k (omega (arith, c.loop-k.invariant.long))))
          (mod_below (c.args.factor * slice_index c.args.row.now k) p positive)),
    )
