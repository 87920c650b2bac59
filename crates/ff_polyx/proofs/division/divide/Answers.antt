use Rattle.std.proofs.Common.{◌≡◌, ℕ, ◌+◌, ◌-◌, length, slice_index_or, refl, ap, sym, ◌∙◌, subst, arith}
use Rattle.std.proofs.lemmas.List.{length-set, get_or_default, get_or_read_under}
use Rattle.alg_model.specs.Maps.{field_values}
use Rattle.ff_polyx.proofs.FieldCarriers.{propositional, ring}
use Rattle.ff_polyx.proofs.ValuePlaces.{Divided, division_start, division_round}
use Rattle.ff_polyx.proofs.division.divide.Goals as goal

pub loop-at-init : goal.loop-at-init
loop-at-init c =
    let K = c.args.field.now in
    record {
      within = omega arith;
      quotient_len = refl;
      rest_len = refl;
      known = division_start (propositional K) (ring K c.prime-prime.ensures.whole)
          (length c.args.d.now - 1) (length c.args.quotient.now) c.args.quotient.now c.args.d.now
          c.args.rest.now c.requires.quotient c.requires.values c.requires.rest c.requires.blank
          (omega (arith, c.requires.steps, c.requires.divisor));
    }

pub loop-at-preserved : goal.loop-at-preserved
loop-at-preserved c =
    let K = c.args.field.now in
    let o = (field_values K).ops in
    let d = c.args.d.now in
    let degree : ℕ = length d - 1 in
    let at : ℕ = c.loop-at.at - 1 in
    let here : c.loop-at.at ≡ at + 1 = omega arith in
    let h = c.loop-at.invariant in
    let known : Divided (field_values K) degree (at + 1) c.loop-at.quotient d c.loop-at.rest
    c.args.rest.now =
    subst (λ n. Divided (field_values K) degree n c.loop-at.quotient d c.loop-at.rest
    c.args.rest.now) here h.known in
    record {
      within = omega (arith, length-set c.loop-at.quotient at c.mul-factor.result);
      quotient_len = length-set c.loop-at.quotient at c.mul-factor.result ∙ h.quotient_len;
      rest_len = c.add_multiple.ensures.len ∙ h.rest_len;
      known = division_round (propositional K) (ring K c.prime-prime.ensures.whole) degree at
          c.loop-at.quotient d c.loop-at.rest c.add_multiple.new.places c.args.rest.now
          c.mul-factor.result c.inverse-inverse.result known c.requires.values
          c.add_multiple.ensures.values c.inverse-inverse.ensures.valid (omega arith)
          (ap (λ x. o.mul x c.inverse-inverse.result)
          (sym (get_or_read_under d degree (length d) c.index-d-degree.result o.zero
          c.index-d-degree.is (omega arith) refl))
          ∙ c.inverse-inverse.ensures.inverse)
          (c.mul-factor.ensures.value
          ∙ ap (λ x. o.mul x c.inverse-inverse.result)
          (get_or_default c.loop-at.rest (at + degree) c.index-rest-at.result o.zero
          (omega (arith, h.rest_len, h.quotient_len, c.requires.steps))))
          c.add_multiple.ensures.below
          (λ k. c.add_multiple.ensures.above k
          ∙ ap (λ x. o.add (slice_index_or c.loop-at.rest (at + k) o.zero)
          (o.mul x (slice_index_or d k o.zero))) c.neg.ensures.value)
          (omega arith);
    }
