use Rattle.std.proofs.Common.{◌+◌, slice_index_or, ap, sym, ◌∙◌, ⊎_elim, arith}
use Rattle.std.proofs.lemmas.Bool.{cases_lt}
use Rattle.std.proofs.lemmas.List.{get_or_past}
use Rattle.alg_model.specs.Maps.{field_values}
use Rattle.alg_rings.proofs.Validity.{place_valid}
use Rattle.ff_polyx.proofs.FieldCarriers.{propositional, ring}
use Rattle.ff_polyx.proofs.ValuePlaces.{unchanged}
use Rattle.ff_polyx.proofs.places.add_multiple.Goals as goal

pub returns-clause-above : goal.returns-clause-above
returns-clause-above c k = ⊎_elim
    (λ l. c.loop-j.invariant.done k l)
    (λ l. let K = c.args.field.now in
    let R = ring K c.prime-prime.ensures.whole in
    let o = (field_values K).ops in
    let old = slice_index_or c.args.places.now (c.args.at + k) o.zero in
    let m = c.args.factor.now in
    c.loop-j.invariant.rest k l
    ∙ sym (unchanged (propositional K) R old m
    (place_valid R c.args.places.now (c.args.at + k) c.requires.places) c.requires.factor)
    ∙ ap (λ w. o.add (slice_index_or c.args.places.now (c.args.at + k) o.zero) (o.mul m w))
    (sym (get_or_past c.args.b.now k o.zero (omega (arith, c.loop-j-test.false)))))
    (cases_lt k c.loop-j.j)
