use Rattle.std.proofs.Common.{◌+◌, ◌*◌, ◌%◌, ◌<◌, ◌≤◌, ◌∷◌, length, set, slice_index, add-one, ap, sym, ◌∙◌, ⊎_elim, arith}
use Rattle.std.proofs.lemmas.Bool.{cases_eq}
use Rattle.std.proofs.lemmas.List.{length-set, get_or-set_same, get_or-set_other}
use Rattle.std.proofs.lemmas.List.Elements.{All-set}
use Rattle.ff_residues.proofs.ResidueLists.{below_at}
use Rattle.ff_factor.proofs.TimesVariable.{product_by_places}
use Rattle.ff_factor.proofs.columns.multiply_by_variable.Goals as goal

pub loop-i-preserved : goal.loop-i-preserved
loop-i-preserved c =
    let p = c.args.p in
    let i = c.loop-i.i in
    let f = c.args.f.now in
    let xs = c.args.places.now in
    let ys = c.loop-i.places in
    let v = c.reduced.result in
    let m = c.neg-multiple.result in
    let h = c.loop-i.invariant in
    let room : i < length ys = omega (arith, c.loop-i.auto.places, c.loop-i-test.true) in
    let above : 0 < p = omega (arith, c.number-number.ensures.small, c.number-number.ensures.value) in
    let same : i ≤ i = omega arith in
    record {
      len = length-set ys i v ∙ h.len;
      below = h.rest i same ∙ sym (ap (slice_index (0 ∷ xs)) (add-one i));
      small = below_at p ys i above h.residues;
      residues = All-set (λ x. x < p) ys i v c.reduced.ensures.residue h.residues;
      done = λ k l. ⊎_elim
          (λ e. ap (slice_index (set ys i v)) e ∙ get_or-set_same ys i v 0 room ∙ c.reduced.ensures.value
          ∙ ap (λ b. (m * slice_index f i + b) % p) h.below
          ∙ ap (λ j. (m * slice_index f j + slice_index (0 ∷ xs) j) % p) (sym e))
          (λ d. get_or-set_other ys i k v 0 d ∙ h.done k (omega arith))
          (cases_eq k i);
      rest = λ k l. get_or-set_other ys i k v 0 (omega arith) ∙ h.rest k (omega arith);
    }

pub returns-clause-product : goal.returns-clause-product
returns-clause-product c =
    let p = c.args.p in
    let f = c.args.f.now in
    let xs = c.args.places.now in
    product_by_places p f xs c.loop-i.places c.requires.sizes c.loop-i.invariant.len
    (λ k l. c.loop-i.invariant.done k (omega (arith, c.loop-i-test.false))
    ∙ ap (λ m. (m * slice_index f k + slice_index (0 ∷ xs) k) % p) c.neg-multiple.ensures.negative)
