use Rattle.std.proofs.Common.{◌≡◌, ℕ, ◌+◌, ◌-◌, ◌*◌, ◌%◌, ◌≤◌, length, slice_index, ap, sym, ◌∙◌, subst, arith}
use Rattle.std.proofs.lemmas.List.{length-set, get_or-set_other}
use native.Mathlib.Nat.{mod-add-mod, zero-add}
use Rattle.std.proofs.lemmas.Nat.{mul-mod_first}
use Rattle.alg_model.specs.Polynomials.{convolution}
use Rattle.alg_rings.proofs.Residues.{nat_ops, product_mod}
use Rattle.ff_residues.specs.SumRows.{residue_at}
use Rattle.ff_residues.proofs.ResidueLists.{below_at}
use Rattle.ff_poly.specs.PrivateSums.{residue_row}
use Rattle.ff_poly.proofs.SumPlaces.{residue_row_is, sums_round}
use Rattle.ff_poly.proofs.Quotients.{Divided, start_division, top_factor}
use Rattle.ff_poly.proofs.division.divide.Given.{Over}
use Rattle.ff_poly.proofs.division.divide.Goals as goal

pub loop-at-init : goal.loop-at-init
loop-at-init g c =
    let d = c.args.d.now in
    let p = c.args.p in
    let f = c.args.rest.now in
    record {
      prime = c.of-sums.ensures.prime;
      long = omega arith;
      short = λ k l. c.requires.blank k;
      divided = subst (λ xs. Divided p (length d - 1) c.args.steps c.args.steps c.args.quotient.now d xs f)
          (sym (residue_row_is g.row.W c.of-sums.result f (omega arith) (λ k l. sym (c.of-sums.ensures.residues k))))
          (start_division p (length d - 1) c.args.steps c.args.quotient.now d f
          c.requires.blank (λ k h. c.requires.within k (omega arith))
          (λ k. below_at p f k (omega (arith, c.number-number.ensures.small, c.number-number.ensures.value)) c.requires.rest)
          (omega (arith, c.number-number.ensures.small, c.number-number.ensures.value)));
    }

pub loop-at-preserved : goal.loop-at-preserved
loop-at-preserved g c =
    let p = c.args.p in
    let d = c.args.d.now in
    let f = c.args.rest.now in
    let w = g.row.W in
    let degree : ℕ = length d - 1 in
    let at : ℕ = c.loop-at.at - 1 in
    let t = c.mul-factor.result in
    let old = c.loop-at.sums in
    let here : c.loop-at.at ≡ at + 1 = omega (arith, c.loop-at-test.true) in
    let known : Divided p degree c.args.steps (at + 1) c.loop-at.quotient d (residue_row w old) f =
    subst (λ n. Divided p degree c.args.steps n c.loop-at.quotient d (residue_row w old) f) here c.loop-at.invariant.divided in
    let left : at + 1 ≤ c.args.steps = known.steps_left in
    let factor : t ≡ ((residue_at old (at + degree) % p) * c.inv-inverse.result) % p =
    c.mul-factor.ensures.product ∙ ap (λ x. (x * c.inv-inverse.result) % p) c.at.ensures.value ∙ sym (mul-mod_first (residue_at old (at + degree)) c.inv-inverse.result p) in
    let top : (t * slice_index d degree) % p ≡ residue_at old (at + degree) % p =
    ap (λ x. (x * slice_index d degree) % p) factor
    ∙ top_factor p (residue_at old (at + degree)) (slice_index d degree) c.inv-inverse.result (omega (arith, c.number-number.ensures.small, c.number-number.ensures.value)) c.inv-inverse.ensures.inverse in
    record {
      prime = c.add_shifted.ensures.prime;
      long = length-set c.loop-at.quotient at t ∙ c.loop-at.invariant.long;
      short = λ k l. get_or-set_other c.loop-at.quotient at k t 0 (omega arith) ∙ c.loop-at.invariant.short k l;
      divided = sums_round w p degree c.args.steps at t c.loop-at.quotient d c.padded-padded.result f old c.add_shifted.new.sums
          known c.padded-padded.ensures.padded c.mul-factor.ensures.residue (omega arith) top c.add_shifted.ensures.prime c.loop-at.invariant.prime
          c.add_shifted.ensures.below
          (λ k l. c.add_shifted.ensures.above k l ∙ ap (λ u. (residue_at old (at + k) + u * slice_index c.padded-padded.result (w + k)) % p) c.neg.ensures.negative)
          (omega (arith, c.requires.room, c.requires.divisor.0, c.loop-at.invariant.long)) (omega (arith, c.requires.room, c.requires.divisor.0));
    }

known : (g : Over) (c : goal.After-row g) → Divided c.args.p (length c.args.d.now - 1) c.args.steps 0 c.loop-at.quotient c.args.d.now c.row.result c.args.rest.now
known g c =
    let p = c.args.p in
    let d = c.args.d.now in
    let start : c.loop-at.at ≡ 0 = omega (arith, c.loop-at-test.false) in
    subst (λ xs. Divided p (length d - 1) c.args.steps 0 c.loop-at.quotient d xs c.args.rest.now)
    (residue_row_is g.row.W c.loop-at.sums c.row.result c.row.ensures.len (λ k l. c.row.ensures.row k))
    (subst (λ n. Divided p (length d - 1) c.args.steps n c.loop-at.quotient d (residue_row g.row.W c.loop-at.sums) c.args.rest.now) start c.loop-at.invariant.divided)

pub returns-clause-smaller : goal.returns-clause-smaller
returns-clause-smaller g c k h = (known g c).cleared k (omega arith)

pub returns-clause-division : goal.returns-clause-division
returns-clause-division g c k =
    let p = c.args.p in
    let q = c.loop-at.quotient in
    let d = c.args.d.now in
    let rest = c.row.result in
    ap (λ w. (w + slice_index rest k) % p) (product_mod p q d k)
    ∙ mod-add-mod (convolution nat_ops q d k) p (slice_index rest k)
    ∙ ap (λ i. (convolution nat_ops q d k + slice_index rest i) % p) (sym (zero-add k))
    ∙ (known g c).division k
    ∙ ap (λ i. slice_index c.args.rest.now i % p) (zero-add k)
