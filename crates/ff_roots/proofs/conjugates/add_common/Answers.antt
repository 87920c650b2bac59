use Rattle.std.proofs.Common.{◌≡◌, sym, ◌∙◌, subst, ⊎_elim, inl, inr}
use Rattle.alg_model.specs.Maps.{field_values}
use Rattle.alg_model.specs.Roots.{IsRoot}
use Rattle.ff_roots.proofs.conjugates.add_common.Goals as goal

pub returns-then-is_zero-clause-members : goal.returns-then-is_zero-clause-members
returns-then-is_zero-clause-members c =
    let F = c.args.field.now in
    let h = c.add_root.ensures.members in
    let zero : c.eval.result ≡ (field_values F).ops.zero = c.is_zero.ensures.0 c.if-is_zero.true in
    let root : IsRoot F c.args.g.now c.args.v.now =
    (c.requires.value, sym c.eval.ensures.value ∙ zero) in
    λ w. (
      λ m. ⊎_elim (λ k. inl k) (λ e. inr (e, subst (IsRoot F c.args.g.now) (sym e) root)) ((h w).0 m),
      λ p. (h w).1 (⊎_elim (λ k. inl k) (λ q. inr q.0) p),
    )
