use Rattle.std.proofs.Common.{◌≡◌, ℕ, ◌+◌, ◌-◌, length, slice_index_or, drop, refl, ap, ◌∙◌, subst, arith}
use Rattle.std.proofs.lemmas.List.{get_or_read_under}
use Rattle.alg_model.specs.Polynomials.{product}
use Rattle.alg_model.specs.Maps.{field_values}
use Rattle.ff_polyx.proofs.FieldCarriers.{propositional, ring}
use Rattle.ff_polyx.proofs.ValuePlaces.{product_step}
use Rattle.ff_polyx.proofs.products.add_product.Goals as goal

pub loop-i-preserved : goal.loop-i-preserved
loop-i-preserved c =
    let K = c.args.field.now in
    let o = (field_values K).ops in
    let i : ℕ = c.loop-i.i - 1 in
    let here : c.loop-i.i ≡ i + 1 = omega arith in
    let h = c.loop-i.invariant in
    record {
      within = omega arith;
      len = c.add_multiple.ensures.len ∙ h.len;
      values = c.add_multiple.ensures.values;
      low = λ k l. c.add_multiple.ensures.below k l ∙ h.low k (omega arith);
      high = product_step (propositional K) (ring K c.prime-prime.ensures.whole) i c.args.a.now
          c.args.b.now c.loop-i.places c.add_multiple.new.places (omega arith) c.requires.first
          c.requires.second h.values (h.low i (omega arith))
          (λ k. subst (λ j. slice_index_or c.loop-i.places (j + k) o.zero
          ≡ slice_index_or (product o (drop j c.args.a.now) c.args.b.now) k o.zero) here (h.high k))
          (λ k. c.add_multiple.ensures.above k
          ∙ ap (λ x. o.add (slice_index_or c.loop-i.places (i + k) o.zero) (o.mul x (slice_index_or c.args.b.now k o.zero)))
          (get_or_read_under c.args.a.now i (length c.args.a.now) c.index-a-i.result o.zero
          c.index-a-i.is (omega arith) refl));
    }
