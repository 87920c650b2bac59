use Rattle.std.proofs.Common.{◌≡◌, suc, ◌+◌, [], ◌∷◌, ◌++◌, length, ap, ap₂, sym, ◌∙◌, arith}
use Rattle.std.proofs.lemmas.List.FromFn.{length-map-range_with_len, map-range_with_len_more}
use Rattle.alg_model.specs.Coefficients.{power}
use Rattle.alg_model.specs.Maps.{field_values}
use Rattle.ff_embed.proofs.roots.power_columns.Goals as goal

pub push-requires-clause-room : goal.push-requires-clause-room
push-requires-clause-room c =
    omega (
      arith,
      ap length c.powers.invariant.columns,
      length-map-range_with_len (power (field_values c.args.field.now).ops c.args.v.now) 0 c.powers._k,
    )

pub powers-preserved : goal.powers-preserved
powers-preserved c =
    let o = (field_values c.args.field.now).ops in
    let v = c.args.v.now in
    let h = c.powers.invariant in
    let next : suc c.powers._k ≡ c.powers._k + 1 = omega arith in record {
      prime = c.push.ensures.prime ∙ h.prime;
      rows = c.push.ensures.rows ∙ h.rows;
      columns = c.push.ensures.columns
          ∙ ap₂ (λ xs y. xs ++ y ∷ []) h.columns (c.digits.ensures.value ∙ h.power)
          ∙ sym (map-range_with_len_more (power o v) 0 c.powers._k c.powers._k (omega arith));
      power = c.mul-power.ensures.value ∙ ap (λ q. o.mul q v) h.power ∙ ap (power o v) next;
      valid = c.mul-power.ensures.valid;
    }
