use Rattle.std.proofs.Common.{◌≡◌, sym, ◌∙◌, subst, rules}
use Rattle.alg_model.specs.Coefficients.{power}
use Rattle.alg_model.specs.Maps.{field_values}
use Rattle.natural_ops.proofs.ProgramValues.{value_at_frobenius_less}
use Rattle.natural_ops.proofs.tests.frobenius_differences_of_values.Goals as goal

pub gives-requires : goal.gives-requires
gives-requires g c = record {
  runs = λ K a s v x y e f.
      let there = subst (λ k. (field_values k).Valid y.now) (sym e)
      (subst (field_values K).Valid (sym f) v) in search rules;
  answers = λ K a b s v (x, y, e, f, h).
      let made : b ≡ (field_values x.now).ops.add
      (power (field_values x.now).ops y.now x.now.characteristic) ((field_values x.now).ops.neg y.now) = search rules in
      made ∙ (λ i. (field_values (e i)).ops.add
      (power (field_values (e i)).ops (f i) (e i).characteristic) ((field_values (e i)).ops.neg (f i)))
      ∙ sym (value_at_frobenius_less c.frobenius_differences.result c.frobenius_differences.ensures.whole c.frobenius_differences.ensures.form K s a v);
}
