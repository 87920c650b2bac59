use Rattle.std.proofs.Common.{◌≡◌, [], ◌*◌, ◌%◌, ◌<◌, length, take, slice_index, slice_index_or, slice_set, ap, ◌∙◌, ⊎_elim, sym, arith, length-take, get_or-take}
use Rattle.std.proofs.lemmas.Bool.{cases_eq}
use Rattle.std.proofs.lemmas.List.{length-set, get_or-set_same, get_or-set_other}
use Rattle.std.proofs.lemmas.List.Elements.{All-set}
use Rattle.ff_residues.proofs.SumsBelow.{sum_same}
use Rattle.ff_field.specs.PrivateTables.{scalar_sum}
use Rattle.ff_field.proofs.traces.next_digits.Goals as goal

pub loop-k-preserved : goal.loop-k-preserved
loop-k-preserved c =
    let p = c.args.p in
    let n = c.args.n in
    let h = c.loop-k.invariant in
    let next = c.loop-k.next in
    let k = c.loop-k.k in
    let v = c.scalar_product.result in
    let row = c.args.row.now in
    let line = slice_index_or c.args.table.now k [] in
    let long : length (take n row) ≡ n = omega (arith, length-take n row, c.requires.within) in
    let is : v ≡ scalar_sum n row line % p =
    c.scalar_product.ensures.value ∙ ap (λ m. scalar_sum m (take n row) line % p) long
    ∙ ap (λ x. x % p) (sum_same n (λ i. slice_index (take n row) i * slice_index line i) (λ i. slice_index row i * slice_index line i)
    (λ i l. ap (λ x. x * slice_index line i) (get_or-take n row i 0 l))) in
    record {
      count = length-set next k v ∙ h.count;
      residues = All-set (λ x. x < p) next k v c.scalar_product.ensures.residue h.residues;
      done = λ j l. ⊎_elim
          (λ e. ap (slice_index (slice_set next k v)) e ∙ get_or-set_same next k v 0 (omega (arith, h.count, c.requires.within))
          ∙ is ∙ ap (λ m. scalar_sum n row (slice_index_or c.args.table.now m []) % p) (sym e))
          (λ d. get_or-set_other next k j v 0 d ∙ h.done j (omega arith))
          (cases_eq j k);
    }
