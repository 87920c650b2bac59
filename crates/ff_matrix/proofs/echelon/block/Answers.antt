use Rattle.std.proofs.Common.{◌+◌, [], ◌∷◌, ◌++◌, ap, ap₂, refl, length, map, get_or, sym, ◌∙◌, arith}
use Rattle.std.proofs.lemmas.List.Elements.{All-push}
use Rattle.std.proofs.lemmas.List.FromFn.{length-map-range_with_len, map-range_with_len_more}
use Rattle.alg_model.specs.Coefficients.{residues}
use Rattle.alg_model.specs.Matrices.{IsColumn}
use Rattle.ff_matrix.proofs.echelon.block.Goals as goal

pub push-requires : goal.push-requires
push-requires g c =
    omega (arith, ap length c.loop-k.invariant.value, length-map-range_with_len (λ k. map (λ row. get_or row k 0) c.args.rows.now) c.args.start c.loop-k.k)

pub loop-k-preserved : goal.loop-k-preserved
loop-k-preserved g c = record {
  value = c.push.ensures ∙ ap₂ (λ xs y. xs ++ y ∷ []) c.loop-k.invariant.value c.column_of.ensures.value
      ∙ sym (map-range_with_len_more (λ k. map (λ row. get_or row k 0) c.args.rows.now) c.args.start c.loop-k.k (c.args.start + c.loop-k.k) refl);
  columns = rw c.push.ensures (All-push (IsColumn (residues c.args.p) (length c.args.rows.now)) c.loop-k.columns c.column_of.result c.loop-k.invariant.columns c.column_of.ensures.column);
}
