use Rattle.std.proofs.Common.{◌≡◌, ℕ, ◌+◌, ◌-◌, ◌<◌, ◌≤◌, length, drop, slice_index, ap, sym, ◌∙◌, arith}
use Rattle.alg_model.specs.Coefficients.{mod_ops}
use Rattle.alg_model.specs.Polynomials.{evaluate}
use Rattle.ff_factor.proofs.LinearFactors.{horner_step}
use Rattle.ff_factor.proofs.linear.values.Goals as goal

pub loop-n-preserved : goal.loop-n-preserved
loop-n-preserved g c =
    let n : ℕ = c.loop-n.n - 1 in
    let here : n + 1 ≡ c.loop-n.n = omega (arith, c.loop-n-test.true) in
    let bound : c.loop-n.n ≤ length c.args.f.now = c.loop-n.invariant.within in
    record {
      within = omega arith;
      lanes = c.multiply_and_add.ensures.lanes ∙ c.loop-n.invariant.lanes;
      residues = c.multiply_and_add.ensures.residues;
      horner = λ k l. horner_step c.args.p n (slice_index c.negatives-points.result k) c.args.f.now (slice_index c.loop-n.values k)
          (slice_index c.multiply_and_add.new.values k) (omega arith)
          (c.loop-n.invariant.horner k l ∙ ap (λ m. evaluate (mod_ops c.args.p) (drop m c.args.f.now) (slice_index c.negatives-points.result k)) (sym here))
          (c.multiply_and_add.ensures.places k l);
    }

pub returns-clause-values : goal.returns-clause-values
returns-clause-values g c = λ k l.
    let done : c.loop-n.n ≡ 0 = omega (arith, c.loop-n-test.false) in
    let below : k < g.row.W = omega (arith, c.requires.lanes.0) in
    c.loop-n.invariant.horner k below
    ∙ ap (λ m. evaluate (mod_ops c.args.p) (drop m c.args.f.now) (slice_index c.negatives-points.result k)) done
    ∙ ap (evaluate (mod_ops c.args.p) c.args.f.now) (c.negatives-points.ensures.negatives k l)
