use Rattle.std.proofs.Common.{◌≡◌, ◌<◌, length, slice_index_or, sym, subst, rules, arith, ap}
use Rattle.std.specs.Option.{option_copied}
use Rattle.alg_model.specs.Candidates.{IsChoice}
use Rattle.lat_core.specs.Step.{prescribed_values}
use Rattle.lat_choice.proofs.Finding.{first_is_choice}
use Rattle.lat_choice.proofs.choices.choice.Goals as goal

pub returns-clause-none : goal.returns-clause-none
returns-clause-none c =
    let r = c.index-items-first.result in
    let list = c.candidates-list.ensures in
    let filled : 0 < length c.items-items.result.now = search rules in
    let chosen = first_is_choice c.candidates-list.result r list.rising list.exactly
    (omega (arith, filled, ap length c.items-items.ensures.value))
    (subst (λ xs. r ≡ slice_index_or xs 0 r) c.items-items.ensures.value c.index-items-first.is) in
    (λ e v s. cc, λ h. absurd (h r chosen.candidate))

pub returns-clause-choice : goal.returns-clause-choice
returns-clause-choice c =
    let r = c.index-items-first.result in
    let list = c.candidates-list.ensures in
    let filled : 0 < length c.items-items.result.now = search rules in
    subst (IsChoice c.args.lattice.now c.args.from c.args.into
    (prescribed_values (option_copied c.args.sending))) (sym c.copy.ensures)
    (first_is_choice c.candidates-list.result r list.rising list.exactly
    (omega (arith, filled, ap length c.items-items.ensures.value))
    (subst (λ xs. r ≡ slice_index_or xs 0 r) c.items-items.ensures.value c.index-items-first.is))
