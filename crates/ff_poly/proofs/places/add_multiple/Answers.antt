use Rattle.std.proofs.Common.{ℕ, ◌+◌, ◌*◌, ◌%◌, ◌<◌, length, set, slice_index, ap, sym, ◌∙◌, ⊎_elim, arith, mod-eq_of_lt}
use Rattle.std.proofs.lemmas.Bool.{cases_lt, cases_eq}
use Rattle.std.proofs.lemmas.List.{get_or_past, get_or-set_same, get_or-set_other}
use Rattle.std.proofs.lemmas.List.Elements.{All-set}
use native.Mathlib.Nat.{mul-zero, add-zero}
use Rattle.ff_residues.proofs.ResidueLists.{below_at, small_step}
use Rattle.ff_poly.proofs.places.add_multiple.Goals as goal

pub overflow_mul-factor : goal.overflow_mul-factor
overflow_mul-factor c =
    let p = c.args.p in
    let size : p < 64 = omega (arith, c.number-number.ensures.small, c.number-number.ensures.value) in
    let above : 0 < p = omega (arith, c.number-number.ensures.small, c.number-number.ensures.value) in
    let small = small_step p c.args.factor (slice_index c.args.b.now c.loop-j.j) (slice_index c.loop-j.places (c.args.at + c.loop-j.j)) size c.requires.factor
    (below_at p c.args.b.now c.loop-j.j above c.requires.residues) (below_at p c.loop-j.places (c.args.at + c.loop-j.j) above c.loop-j.invariant.residues) in
    omega (arith, small)

pub overflow_add-places : goal.overflow_add-places
overflow_add-places c =
    let p = c.args.p in
    let size : p < 64 = omega (arith, c.number-number.ensures.small, c.number-number.ensures.value) in
    let above : 0 < p = omega (arith, c.number-number.ensures.small, c.number-number.ensures.value) in
    let small = small_step p c.args.factor (slice_index c.args.b.now c.loop-j.j) (slice_index c.loop-j.places (c.args.at + c.loop-j.j)) size c.requires.factor
    (below_at p c.args.b.now c.loop-j.j above c.requires.residues) (below_at p c.loop-j.places (c.args.at + c.loop-j.j) above c.loop-j.invariant.residues) in
    omega (arith, small)

pub reduced-requires : goal.reduced-requires
reduced-requires c =
    let p = c.args.p in
    let size : p < 64 = omega (arith, c.number-number.ensures.small, c.number-number.ensures.value) in
    let above : 0 < p = omega (arith, c.number-number.ensures.small, c.number-number.ensures.value) in
    let small = small_step p c.args.factor (slice_index c.args.b.now c.loop-j.j) (slice_index c.loop-j.places (c.args.at + c.loop-j.j)) size c.requires.factor
    (below_at p c.args.b.now c.loop-j.j above c.requires.residues) (below_at p c.loop-j.places (c.args.at + c.loop-j.j) above c.loop-j.invariant.residues) in
    omega (arith, small)

pub loop-j-preserved : goal.loop-j-preserved
loop-j-preserved c =
    let p = c.args.p in
    let i : ℕ = c.args.at + c.loop-j.j in
    let rows = c.loop-j.places in
    let h = c.loop-j.invariant in
    let room : i < length rows = omega (arith, c.loop-j.auto.places, c.loop-j-test.true, c.requires.room) in
    record {
      residues = All-set (λ x. x < p) rows i c.reduced.result c.reduced.ensures.residue h.residues;
      below = λ k l. get_or-set_other rows i k c.reduced.result 0 (omega arith) ∙ h.below k l;
      done = λ k l. ⊎_elim
          (λ e. ap (λ m. slice_index (set rows i c.reduced.result) (c.args.at + m)) e ∙ get_or-set_same rows i c.reduced.result 0 room
          ∙ c.reduced.ensures.value ∙ ap (λ w. (w + c.args.factor * slice_index c.args.b.now c.loop-j.j) % p) (h.rest c.loop-j.j (omega arith))
          ∙ ap (λ m. (slice_index c.args.places.now (c.args.at + m) + c.args.factor * slice_index c.args.b.now m) % p) (sym e))
          (λ d. get_or-set_other rows i (c.args.at + k) c.reduced.result 0 (omega arith) ∙ h.done k (omega arith))
          (cases_eq k c.loop-j.j);
      rest = λ k l. get_or-set_other rows i (c.args.at + k) c.reduced.result 0 (omega arith) ∙ h.rest k (omega arith);
    }

pub returns-clause-above : goal.returns-clause-above
returns-clause-above c k = ⊎_elim
    (λ l. c.loop-j.invariant.done k l)
    (λ l. let p = c.args.p in
    let above : 0 < p = omega (arith, c.number-number.ensures.small, c.number-number.ensures.value) in
    let old = slice_index c.args.places.now (c.args.at + k) in
    c.loop-j.invariant.rest k l
    ∙ sym (mod-eq_of_lt (below_at p c.args.places.now (c.args.at + k) above c.requires.places))
    ∙ ap (λ w. w % p) (sym (add-zero old) ∙ ap (λ w. old + w) (sym (mul-zero c.args.factor)
    ∙ ap (λ w. c.args.factor * w) (sym (get_or_past c.args.b.now k 0 (omega (arith, c.loop-j-test.false)))))))
    (cases_lt k c.loop-j.j)
