use Rattle.std.proofs.Common.{◌≡◌, sym, ◌∙◌, subst, rules}
use Rattle.alg_model.specs.Maps.{field_values}
use Rattle.natural_ops.proofs.ProgramValues.{value_at_square}
use Rattle.natural_ops.proofs.tests.stored_call_is_used.Goals as goal

pub gives-requires : goal.gives-requires
gives-requires g c = record {
  runs = λ K a s v x y e f κs r q h ls.
      let there = subst (λ k. (field_values k).Valid y.now) (sym e)
      (subst (field_values K).Valid (sym f) v) in (there, there);
  answers = λ K a b s v (x, y, e, f, h).
      let made : b ≡ (field_values x.now).ops.mul y.now y.now = search rules in
      made ∙ (λ i. (field_values (e i)).ops.mul (f i) (f i))
      ∙ sym (value_at_square c.squares.result c.squares.ensures.whole c.squares.ensures.form K s a v);
}
