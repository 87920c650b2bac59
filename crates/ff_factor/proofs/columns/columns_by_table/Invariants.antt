use Rattle.std.proofs.Common.{◌≡◌, ◌-◌, ◌*◌, [], ◌∷◌, length, map}
use Rattle.std.specs.List.{range_with_len}
use Rattle.alg_model.specs.Coefficients.{mod_ops}
use Rattle.alg_model.specs.Polynomials.{poly_power}
use Rattle.alg_model.specs.Values.{remainder}
use Rattle.ff_factor.specs.Certificates.{berlekamp_column}
use Rattle.ff_factor.proofs.columns.columns_by_table.Given as goal

abbrev pub invariant-loop-k : goal.invariant-loop-k
invariant-loop-k l = record {
  last : l.power ≡ remainder (mod_ops l.f.prime) l.f.coefficients (poly_power (mod_ops l.f.prime) (0 ∷ 1 ∷ []) ((l.k - 1) * l.f.prime));
  counted : length l.columns.items ≡ l.k - 1;
  columns : l.columns.items ≡ map (berlekamp_column (mod_ops l.f.prime) l.f.prime l.f.coefficients) (range_with_len 1 (l.k - 1));
}
