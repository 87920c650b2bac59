use Rattle.std.proofs.Common.{[], ◌∷◌, ◌++◌, take, length, ap, ap₂, sym, ◌∙◌, arith}
use Rattle.std.proofs.lemmas.List.FromFn.{length-map-range_with_len, map-range_with_len_more}
use Rattle.alg_model.specs.Coefficients.{mod_ops}
use Rattle.alg_model.specs.Matrices.{unit_column}
use Rattle.ff_poly.specs.declared.TheConstants.{MAX_DEGREE}
use Rattle.ff_embed.proofs.ColumnTables.{unit_cut}
use Rattle.ff_embed.proofs.columns.Columns.identity.Goals as goal

pub push-requires-clause-room : goal.push-requires-clause-room
push-requires-clause-room c =
    omega (
      arith,
      ap length c.loop-k.invariant.columns,
      length-map-range_with_len (unit_column (mod_ops c.args.p) c.args.n) 0 c.loop-k.k,
    )

pub loop-k-preserved : goal.loop-k-preserved
loop-k-preserved c = record {
  prime = c.push.ensures.prime ∙ c.loop-k.invariant.prime;
  rows = c.push.ensures.rows ∙ c.loop-k.invariant.rows;
  columns = c.push.ensures.columns
      ∙ ap₂ (λ xs y. xs ++ y ∷ []) c.loop-k.invariant.columns
      (ap (take c.args.n) c.unit_row-row.ensures.unit
      ∙ unit_cut c.args.p MAX_DEGREE c.args.n c.loop-k.k (omega arith) (omega arith))
      ∙ sym (map-range_with_len_more (unit_column (mod_ops c.args.p) c.args.n) 0 c.loop-k.k
      c.loop-k.k (omega arith));
}
