use Rattle.std.proofs.Common.{◌≡◌, ◌+◌, ◌%◌, ◌<◌, slice_index, ⊎_elim, arith, mod-lt, ◌∙◌}
use Rattle.std.proofs.lemmas.Bool.{cases_lt}
use Rattle.std.proofs.lemmas.List.Elements.{All-from_get_or}
use Rattle.ff_field.proofs.arithmetic.sum_row.Goals as goal

pub returns-clause-residues : goal.returns-clause-residues
returns-clause-residues c =
    let p = c.args.p in
    let positive : 0 < p = omega (arith, c.number-number.ensures.small, c.number-number.ensures.value) in
    let h = c.loop-k.invariant in
    All-from_get_or (λ x. x < p) c.loop-k.row 0 (λ k l. ⊎_elim
    (λ m. let e = h.done k m in
    let s : (slice_index c.args.a.now k + slice_index c.args.b.now k) % p < p = mod-lt (slice_index c.args.a.now k + slice_index c.args.b.now k) positive in omega (arith, e, s))
    (λ m. let e : slice_index c.loop-k.row k ≡ 0 = h.rest k m ∙ c.zeros-row.ensures.blank k in omega (arith, e))
    (cases_lt k c.loop-k.k))
