use Rattle.std.proofs.Common.{◌≡◌, ◌<◌, [], length, ap, sym, ◌∙◌, subst, arith, add-one}
use Rattle.alg_model.specs.Coefficients.{power}
use Rattle.alg_model.specs.Maps.{field_values, generator, degree_of}
use Rattle.alg_splitting.specs.PrivateSearch.{IsTraceAtRoots}
use Rattle.alg_splitting.proofs.SplitPolynomials.{root_of_degree_one}
use Rattle.alg_splitting.proofs.RootTraces.{trace_constant_at_roots}
use Rattle.ff_roots.proofs.Collecting.{Collected, collected_start, collected_step, collected_end, collected_all, next_splits, next_new, next_room, next_narrowed}
use Rattle.ff_roots.proofs.Narrowing.{traced_rest, not_at_end, linear_collected}
use Rattle.ff_roots.proofs.general.+collect.Goals as goal

pub returns-then-len-lt2 : goal.returns-then-len-lt2
returns-then-len-lt2 t c =
    let F = c.args.field.now in
    let W = c.prime-prime.ensures.whole.finite in
    let part = c.args.part.now in
    let list = c.args.list.now in
    collected_end F W part [] list 0 part list
    (collected_start F W part [] list c.requires.splits c.requires.list c.requires.new)
    (omega (arith, c.if-len-lt2.true, ap length c.coefficients-len.ensures.value)) c.requires.splits

pub add_root-requires-clause-new : goal.add_root-requires-clause-new
add_root-requires-clause-new t c =
    let F = c.args.field.now in
    let W = c.prime-prime.ensures.whole.finite in
    let part = c.args.part.now in
    let two : length part ≡ 2 =
    omega (arith, c.if-len-eq2.true, ap length c.coefficients-len.ensures.value) in
    let N = c.requires.narrowed (omega arith) in
    let v = c.linear_root.result in
    c.requires.new v ((root_of_degree_one F W part N.splits.polynomial N.monic two v).1
    c.linear_root.ensures.value)

pub returns-then-len-eq2 : goal.returns-then-len-eq2
returns-then-len-eq2 t c =
    let F = c.args.field.now in
    let W = c.prime-prime.ensures.whole.finite in
    let part = c.args.part.now in
    let two : length part ≡ 2 =
    omega (arith, c.if-len-eq2.true, ap length c.coefficients-len.ensures.value) in
    linear_collected F W c.args.g.now part c.args.k (c.requires.narrowed (omega arith))
    c.linear_root.result c.args.list.now c.add_root.new.list two c.linear_root.ensures.value
    c.add_root.ensures

pub residues-init : goal.residues-init
residues-init t c =
    let F = c.args.field.now in
    let part = c.args.part.now in
    let list = c.args.list.now in
    let trace = c.divrem-trace.result.1 in
    subst (λ rest. Collected F part trace list 0 rest list) (sym c.copy-rest.ensures)
    (collected_start F c.prime-prime.ensures.whole.finite part trace list c.requires.splits
    c.requires.list c.requires.new)

pub returns-then-coefficients-lt2 : goal.returns-then-coefficients-lt2
returns-then-coefficients-lt2 t c =
    collected_end c.args.field.now c.prime-prime.ensures.whole.finite c.args.part.now
    c.divrem-trace.result.1 c.args.list.now c.residues.c c.residues.rest c.residues.list
    c.residues.invariant
    (omega (arith, c.if-coefficients-lt2.true, ap length c.coefficients.ensures.value))
    c.requires.splits

pub collect-requires : goal.collect-requires
collect-requires t c =
    let F = c.args.field.now in
    let W = c.prime-prime.ensures.whole.finite in
    let o = (field_values F).ops in
    let g = c.args.g.now in
    let part = c.args.part.now in
    let k = c.args.k in
    let trace = c.divrem-trace.result.1 in
    let next = c.part_at-next.result in
    let len = ap length c.coefficients-len.ensures.value in
    let N = c.requires.narrowed (omega (arith, c.if-len-lt2.false, len)) in
    let deep : k < degree_of F = not_at_end F W g part k N
    (omega (arith, c.if-len-lt2.false, c.if-len-eq2.false, len)) c.requires.depth in
    let s : IsTraceAtRoots F part (power o (generator F) k) trace =
    subst (λ a. IsTraceAtRoots F part a trace) c.requires.factor
    (traced_rest F W g part k N c.args.factor.now c.requires.value c.trace_of.result
    c.divrem-trace.result.0 trace c.trace_of.ensures.trace c.divrem-trace.ensures.division) in
    let C = c.residues.invariant in
    let below : c.residues.c < F.characteristic = omega (
      arith,
      c.residues-test.true,
      c.number-c-end.ensures.value,
      c.prime.ensures.value,
    ) in
    let vt = c.divrem-trace.ensures.division.remainder in
    let G = c.part_at-next.ensures in
    let old = c.args.list.now in
    let rest = c.residues.rest in
    let list = c.residues.list in (
      omega arith,
      (
        c.requires.polynomial,
        (
          c.requires.not_constant,
          (
            c.requires.degree,
            (
              c.requires.powers,
              (
                next_splits F W part trace old c.residues.c rest list C below vt next G,
                (
                  λ l. rw add-one (next_narrowed F W part trace old c.residues.c rest list C below vt next G g k
                      N s l),
                  (
                    omega (arith, deep),
                    (
                      rw add-one (c.mul-next_factor.ensures.value
                          ∙ ap (λ x. o.mul x c.generator.result) c.requires.factor
                          ∙ ap (o.mul (power o (generator F) k)) c.generator.ensures.value),
                      (
                        c.mul-next_factor.ensures.valid,
                        (
                          C.rising,
                          (
                            next_new F W part trace old c.residues.c rest list C below vt next G,
                            omega (
                              arith,
                              c.requires.room,
                              next_room F W part trace old c.residues.c rest list C below vt next G,
                            ),
                          ),
                        ),
                      ),
                    ),
                  ),
                ),
              ),
            ),
          ),
        ),
      ),
    )

pub divrem-quotient-requires-clause-not_zero : goal.divrem-quotient-requires-clause-not_zero
divrem-quotient-requires-clause-not_zero t c =
    (next_splits c.args.field.now c.prime-prime.ensures.whole.finite c.args.part.now
    c.divrem-trace.result.1 c.args.list.now c.residues.c c.residues.rest c.residues.list
    c.residues.invariant (omega (
      arith,
      c.residues-test.true,
      c.number-c-end.ensures.value,
      c.prime.ensures.value,
    )) c.divrem-trace.ensures.division.remainder c.part_at-next.result
    c.part_at-next.ensures).not_zero

pub residues-preserved : goal.residues-preserved
residues-preserved t c = rw add-one
    (collected_step c.args.field.now c.prime-prime.ensures.whole.finite c.args.part.now
    c.divrem-trace.result.1 c.args.list.now c.residues.c c.residues.rest c.residues.list
    c.residues.invariant (omega (
      arith,
      c.residues-test.true,
      c.number-c-end.ensures.value,
      c.prime.ensures.value,
    )) c.divrem-trace.ensures.division.remainder c.part_at-next.result
    c.part_at-next.ensures c.collect.new.list c.divrem-quotient.result.0 c.divrem-quotient.result.1
    c.collect.ensures c.divrem-quotient.ensures.division)

pub returns : goal.returns
returns t c =
    let F = c.args.field.now in
    let W = c.prime-prime.ensures.whole.finite in
    let part = c.args.part.now in
    let trace = c.divrem-trace.result.1 in
    let N = c.requires.narrowed
    (omega (arith, c.if-len-lt2.false, ap length c.coefficients-len.ensures.value)) in
    let s : IsTraceAtRoots F part c.args.factor.now trace =
    traced_rest F W c.args.g.now part c.args.k N c.args.factor.now c.requires.value c.trace_of.result
    c.divrem-trace.result.0 trace c.trace_of.ensures.trace c.divrem-trace.ensures.division in
    let done : length c.residues.rest < 2 =
    collected_all F W part trace c.args.list.now c.residues.c c.residues.rest c.residues.list
    c.residues.invariant (omega (
      arith,
      c.residues-test.false,
      c.number-c-end.ensures.value,
      c.prime.ensures.value,
    ))
    (trace_constant_at_roots F W part c.args.factor.now c.requires.value trace s) in
    collected_end F W part trace c.args.list.now c.residues.c c.residues.rest c.residues.list
    c.residues.invariant done c.requires.splits
