use Rattle.std.proofs.Common.{◌≡◌, ◌≢◌, length, slice_index_or, ap, sym, ◌∙◌, subst, arith, Less}
use Rattle.std.specs.List.{insert}
use Rattle.std.specs.Ordering.{nat_cmp}
use Rattle.alg_model.specs.Factors.{order_by}
use Rattle.ff_roots.specs.PrivateCollecting.{Collects}
use Rattle.ff_roots.proofs.RootInsertion.{inserted}
use Rattle.ff_roots.proofs.lists.add_root.Goals as goal

pub returns : goal.returns
returns c =
    let F = c.args.field.now in
    let vs = c.args.list.now in
    let v = c.args.v.now in
    let i = c.place_of-place.result in
    let e = c.items.ensures.value in
    let h = c.place_of-place.ensures in
    subst (Collects F (λ w. w ≡ v) 1 vs) (sym (c.insert.ensures ∙ ap (insert vs i) c.copy.ensures))
    (inserted F vs i v c.requires.list c.requires.value c.requires.new
    (omega (arith, h.within, ap length e))
    (λ k d l. subst (λ xs. order_by nat_cmp v (slice_index_or xs k d) ≢ Less) e (h.before k d l))
    (λ d l. subst (λ xs. order_by nat_cmp v (slice_index_or xs i d) ≡ Less) e
    (h.after d (omega (arith, ap length e)))))
