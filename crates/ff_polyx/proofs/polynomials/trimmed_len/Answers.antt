use Rattle.std.proofs.Common.{◌-◌, length, refl, sym, ◌∙◌, arith}
use Rattle.std.proofs.lemmas.List.{get_or_read_under}
use Rattle.alg_model.specs.Maps.{field_values}
use Rattle.ff_polyx.proofs.FieldCarriers.{propositional, ring}
use Rattle.ff_polyx.proofs.ValuePlaces.{trim_is_take, trim_blank}
use Rattle.ff_polyx.proofs.polynomials.trimmed_len.Goals as goal

pub returns-then-not-is_zero-clause-trimmed : goal.returns-then-not-is_zero-clause-trimmed
returns-then-not-is_zero-clause-trimmed c =
    let K = c.args.field.now in
    trim_is_take (propositional K) (ring K c.prime-prime.ensures.whole) c.loop-n.n c.args.c.now
    c.requires c.loop-n-test.true c.loop-n.invariant.within
    (λ z. let t = c.is_zero.ensures.1 (get_or_read_under c.args.c.now (c.loop-n.n - 1)
    (length c.args.c.now) c.index-c-n.result (field_values K).ops.zero c.index-c-n.is (omega arith)
    refl ∙ z) in
    let f = c.if-not-is_zero.true in cc)
    c.loop-n.invariant.zeros

pub returns-clause-trimmed : goal.returns-clause-trimmed
returns-clause-trimmed c =
    let K = c.args.field.now in
    sym (trim_blank (propositional K) (ring K c.prime-prime.ensures.whole) c.args.c.now c.requires
    (λ k. c.loop-n.invariant.zeros k (omega arith)))
