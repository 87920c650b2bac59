use Rattle.std.proofs.Common.{◌≡◌, ◌<◌, length, slice_index_or, sym, subst, rules, arith, ap}
use Rattle.alg_model.specs.Roots.{IsLeastRoot}
use Rattle.ff_roots.proofs.GeneralRoots.{first_is_least}
use Rattle.ff_roots.proofs.general.one_root.Goals as goal

pub returns-clause-none : goal.returns-clause-none
returns-clause-none c =
    let F = c.args.field.now in
    let g = c.args.g.now in
    let r = c.index-items-first.result in
    let filled : 0 < length c.items-items.result.now = search rules in
    let least : IsLeastRoot F g r = first_is_least F g c.roots-list.result r c.roots-list.ensures
    (omega (arith, filled, ap length c.items-items.ensures.value))
    (subst (λ xs. r ≡ slice_index_or xs 0 r) c.items-items.ensures.value c.index-items-first.is) in
    (λ e v s. cc, λ h. absurd (h r least.root))

pub returns-clause-least : goal.returns-clause-least
returns-clause-least c =
    let F = c.args.field.now in
    let g = c.args.g.now in
    let r = c.index-items-first.result in
    let filled : 0 < length c.items-items.result.now = search rules in
    subst (IsLeastRoot F g) (sym c.copy.ensures)
    (first_is_least F g c.roots-list.result r c.roots-list.ensures
    (omega (arith, filled, ap length c.items-items.ensures.value))
    (subst (λ xs. r ≡ slice_index_or xs 0 r) c.items-items.ensures.value c.index-items-first.is))
