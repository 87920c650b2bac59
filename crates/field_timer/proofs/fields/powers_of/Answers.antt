use Rattle.std.proofs.Common.{[], ◌∷◌, ◌+◌, length, All, ap, sym, subst, ◌∙◌}
use Rattle.std.proofs.lemmas.List.{length-append}
use Rattle.std.proofs.lemmas.List.Elements.{All-nil, All-cons, All-append}
use Rattle.alg_model.specs.Maps.{field_values}
use Rattle.field_timer.proofs.fields.powers_of.Goals as goal

pub loop-k-init : goal.loop-k-init
loop-k-init c =
    let V = (field_values c.args.field.now).Valid in
    record {
      count = ap length c.new-values.ensures;
      valid = subst (All V) (sym c.new-values.ensures) (All-nil V);
      value = subst V (sym c.copy-value.ensures) c.requires.value;
    }

pub loop-k-preserved : goal.loop-k-preserved
loop-k-preserved c =
    let V = (field_values c.args.field.now).Valid in
    let h = c.loop-k.invariant in
    let one = c.copy.result ∷ [] in
    record {
      count = ap length c.push.ensures.items ∙ length-append c.loop-k.values.items one ∙ ap (λ m. m + 1) h.count;
      valid = subst (All V) (sym c.push.ensures.items) (All-append V c.loop-k.values.items one h.valid
          (All-cons V c.copy.result [] (subst V (sym c.copy.ensures) h.value) (All-nil V)));
      value = c.mul-value.ensures.valid;
    }
