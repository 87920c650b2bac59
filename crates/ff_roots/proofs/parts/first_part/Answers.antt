use Rattle.std.proofs.Common.{◌≡◌, ◌<◌, ◌≤◌, ℕ, List, length, ap, sym, ◌∙◌, arith, ⊎_elim, eq-or-lt_of_le}
use Rattle.alg_model.specs.Maps.{constant}
use Rattle.alg_model.specs.Roots.{IsRoot}
use Rattle.alg_splitting.proofs.SplitPolynomials.{split_root}
use Rattle.alg_splitting.proofs.RootCuts.{cut_not_constant}
use Rattle.ff_roots.proofs.parts.first_part.Goals as goal

pub loop-c-preserved : goal.loop-c-preserved
loop-c-preserved c =
    let F = c.args.field.now in
    let W = c.prime-prime.ensures.whole.finite in
    let S = c.requires.splits in
    λ v s t h e. ⊎_elim
    (λ (q : t ≡ c.loop-c.c). let long = cut_not_constant F W c.args.part.now c.args.trace.now
    S.polynomial c.requires.trace c.loop-c.c
    (omega (arith, c.number-c-end.ensures.value, c.prime.ensures.value)) c.part_at-next.result
    S.not_zero c.part_at-next.ensures v s (e ∙ ap (constant F) q) in
    omega (arith, long, c.if-coefficients-gt1.false, ap length c.coefficients-in-loop-c.ensures.value))
    (λ (l : t < c.loop-c.c). c.loop-c.invariant v s t l e)
    (eq-or-lt_of_le (let m : t ≤ c.loop-c.c = omega arith in m))

pub unreachable-requires : goal.unreachable-requires
unreachable-requires c =
    let F = c.args.field.now in
    let W = c.prime-prime.ensures.whole.finite in
    let v : (v : List ℕ) × IsRoot F c.args.part.now v =
    split_root F W c.args.part.now c.requires.splits c.requires.not_constant in
    let t = c.requires.constants v.0 v.1 in
    c.loop-c.invariant v.0 v.1 t.0
    (omega (arith, t.1, c.number-c-end.ensures.value, c.prime.ensures.value, c.loop-c-test.false))
    (sym t.2)
