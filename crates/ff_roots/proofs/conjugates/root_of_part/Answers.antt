use Rattle.std.proofs.Common.{◌≡◌, ◌≤◌, suc, length, ap, sym, ◌∙◌, subst, arith, add-one, ⊎_elim}
use Rattle.alg_model.specs.Coefficients.{power}
use Rattle.alg_model.specs.Maps.{field_values, degree_of, generator, constants}
use Rattle.alg_model.specs.Roots.{IsRoot}
use Rattle.alg_splitting.specs.PrivateSearch.{IsTraceAtRoots, IsNarrowed}
use Rattle.alg_splitting.proofs.RootTraces.{trace_constant_at_roots}
use Rattle.alg_splitting.proofs.NarrowedRoots.{narrowed_start, narrowed_step, narrowed_same, narrowed_end, narrowed_root}
use Rattle.ff_roots.proofs.Narrowing.{traced_part}
use Rattle.ff_roots.proofs.conjugates.root_of_part.Goals as goal

pub narrowing-init : goal.narrowing-init
narrowing-init c =
    let F = c.args.field.now in
    let W = c.prime-prime.ensures.whole.finite in
    let whole = c.args.whole.now in
    record {
      narrowed = subst (IsNarrowed F whole 0) (sym c.copy-part.ensures)
          (narrowed_start F W whole c.requires.splits c.requires.monic c.requires.not_constant);
      factor = c.one-factor.ensures.value;
      valid = c.one-factor.ensures.valid;
    }

pub returns-then-coefficients-eq2 : goal.returns-then-coefficients-eq2
returns-then-coefficients-eq2 c =
    let F = c.args.field.now in
    let W = c.prime-prime.ensures.whole.finite in
    let whole = c.args.whole.now in
    let part = c.narrowing.part in
    let two : length part ≡ 2 =
    omega (arith, ap length c.coefficients.ensures.value, c.if-coefficients-eq2.true) in
    subst (IsRoot F whole) (sym c.linear_root.ensures.value)
    (narrowed_root F W whole c.narrowing._k part c.narrowing.invariant.narrowed two)

pub first_part-part-requires-clause-constants : goal.first_part-part-requires-clause-constants
first_part-part-requires-clause-constants c =
    let F = c.args.field.now in
    let W = c.prime-prime.ensures.whole.finite in
    let a = c.narrowing.factor in
    let va = c.narrowing.invariant.valid in
    trace_constant_at_roots F W c.narrowing.part a va c.divrem-rest.result.1
    (traced_part F W (constants F c.args.source.now.polynomial) c.args.whole.now c.narrowing.part
    c.narrowing._k c.requires.splits.polynomial c.requires.divides c.narrowing.invariant.narrowed a va
    c.conjugate_trace-trace.result c.divrem-rest.result.0 c.divrem-rest.result.1
    c.conjugate_trace-trace.ensures.trace c.divrem-rest.ensures.division)

pub narrowing-preserved : goal.narrowing-preserved
narrowing-preserved c =
    let F = c.args.field.now in
    let W = c.prime-prime.ensures.whole.finite in
    let o = (field_values F).ops in
    let whole = c.args.whole.now in
    let part = c.narrowing.part in
    let k = c.narrowing._k in
    let h = c.narrowing.invariant in
    let a = c.narrowing.factor in
    let rest = c.divrem-rest.result.1 in
    let t : IsTraceAtRoots F part (power o (generator F) k) rest =
    subst (λ x. IsTraceAtRoots F part x rest) h.factor
    (traced_part F W (constants F c.args.source.now.polynomial) whole part k
    c.requires.splits.polynomial c.requires.divides h.narrowed a h.valid
    c.conjugate_trace-trace.result c.divrem-rest.result.0 rest
    c.conjugate_trace-trace.ensures.trace c.divrem-rest.ensures.division) in
    let vt = c.divrem-rest.ensures.division.remainder in
    let next = c.first_part-part in
    record {
      narrowed = rw add-one (⊎_elim
          (λ e. subst (IsNarrowed F whole (suc k)) (sym e.1)
          (narrowed_same F W whole k part h.narrowed rest vt t (let l : length rest ≤ 1 = omega (arith, e.0) in l)))
          (λ cut. narrowed_step F W whole k part h.narrowed rest vt t cut.0 cut.1 next.result cut.2
          next.ensures.not_constant)
          next.ensures.part);
      factor = rw add-one (c.mul-factor.ensures.value
          ∙ ap (λ x. o.mul x c.generator.result) h.factor
          ∙ ap (o.mul (power o (generator F) k)) c.generator.ensures.value);
      valid = c.mul-factor.ensures.valid;
    }

pub linear_root-requires-2-clause-linear : goal.linear_root-requires-2-clause-linear
linear_root-requires-2-clause-linear c =
    let F = c.args.field.now in
    let W = c.prime-prime.ensures.whole.finite in
    let whole = c.args.whole.now in
    let part = c.narrowing.part in
    let all : c.narrowing._k ≡ degree_of F = omega arith in
    narrowed_end F W whole part
    (subst (λ n. IsNarrowed F whole n part) all c.narrowing.invariant.narrowed)

pub returns : goal.returns
returns c =
    let F = c.args.field.now in
    let W = c.prime-prime.ensures.whole.finite in
    let whole = c.args.whole.now in
    let part = c.narrowing.part in
    let all : c.narrowing._k ≡ degree_of F = omega arith in
    let two : length part ≡ 2 = narrowed_end F W whole part
    (subst (λ n. IsNarrowed F whole n part) all c.narrowing.invariant.narrowed) in
    subst (IsRoot F whole) (sym c.linear_root-2.ensures.value)
    (narrowed_root F W whole c.narrowing._k part c.narrowing.invariant.narrowed two)
