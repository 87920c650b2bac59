use Rattle.std.proofs.Common.{◌≡◌, ◌-◌, ◌+◌, ◌*◌, ◌%◌, ◌<◌, length, slice_index, ap₂, sym, ◌∙◌, subst, arith, ⊎_elim}
use Rattle.std.proofs.lemmas.Bool.{cases_lt}
use Rattle.std.proofs.lemmas.Nat.{mod_below}
use Rattle.std.proofs.lemmas.List.Elements.{All-from_get_or}
use Rattle.ff_poly.specs.declared.TheConstants.{MAX_DEGREE}
use Rattle.ff_residues.proofs.ResidueLists.{below_at}
use Rattle.ff_residues.proofs.ChangedPlaces.{one_changed}
use Rattle.ff_field.specs.PrivateTables.{times_x_place}
use Rattle.ff_field.proofs.RemainderRows.{reduced_step}
use Rattle.ff_field.proofs.tables.times_x.Goals as goal

pub loop-k-preserved : goal.loop-k-preserved
loop-k-preserved c =
    let p = c.args.p in
    let f = c.args.f.now in
    let r = c.args.row.now in
    let k = c.loop-k.k in
    let positive : 0 < p = omega (arith, c.number-number.ensures.small, c.number-number.ensures.value) in
    let top = below_at p r (length f - 1 - 1) positive c.requires.row.residues in
    let place : c.reduced.result ≡ times_x_place p f (slice_index r) k % p =
    c.reduced.ensures.value
    ∙ ap₂ (λ a t. (a + t * slice_index f k) % p) c.before-in-loop-k.ensures c.neg-factor.ensures.negative
    ∙ reduced_step p f (slice_index r) k top in
    one_changed MAX_DEGREE (λ k. times_x_place p f (slice_index r) k % p) c.zeros-next.result
    c.loop-k.next k c.reduced.result (omega (arith, c.loop-k-test.true)) place c.loop-k.invariant

pub returns-clause-row : goal.returns-clause-row
returns-clause-row c =
    let p = c.args.p in
    let positive : 0 < p = omega (arith, c.number-number.ensures.small, c.number-number.ensures.value) in
    let h = c.loop-k.invariant in
    record {
      wide = omega (arith, h.long);
      residues = All-from_get_or (λ x. x < p) c.loop-k.next 0 (λ i l. ⊎_elim
          (λ m. subst (λ x. x < p) (sym (h.done i m))
          (mod_below (times_x_place p c.args.f.now (slice_index c.args.row.now) i) p positive))
          (λ m. subst (λ x. x < p) (sym (h.rest i m ∙ c.zeros-next.ensures.blank i)) positive)
          (cases_lt i c.loop-k.k));
    }
