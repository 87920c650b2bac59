use Rattle.std.proofs.Common.{◌≡◌, ◌+◌, ◌-◌, [], ◌∷◌, ◌++◌, map, ap, ap₂, sym, ◌∙◌, arith}
use Rattle.std.specs.List.{range_with_len}
use Rattle.std.proofs.lemmas.List.FromFn.{map-range_with_len_more}
use Rattle.alg_model.specs.Coefficients.{mod_ops}
use Rattle.ff_factor.specs.Certificates.{berlekamp_column}
use Rattle.ff_factor.proofs.columns.columns_by_powers.Goals as goal

pub loop-k-preserved : goal.loop-k-preserved
loop-k-preserved c =
    let f = c.args.f.now in
    let column = berlekamp_column (mod_ops f.prime) f.prime f.coefficients in
    let k = c.loop-k.k in
    let more : k - 1 + 1 ≡ k + 1 - 1 = omega arith in
    let at : 1 + (k - 1) ≡ k = omega arith in
    record {
      counted = omega (arith, c.push.ensures.len, c.loop-k.invariant.counted);
      columns =
          c.push.ensures.items ∙ ap₂ (λ xs x. xs ++ x ∷ []) c.loop-k.invariant.columns c.gap_column.ensures.value
          ∙ sym (map-range_with_len_more column 1 (k - 1) k at) ∙ ap (λ j. map column (range_with_len 1 j)) more;
    }
