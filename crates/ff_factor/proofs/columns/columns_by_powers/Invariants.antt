use Rattle.std.proofs.Common.{◌≡◌, ◌-◌, length, map}
use Rattle.std.specs.List.{range_with_len}
use Rattle.alg_model.specs.Coefficients.{mod_ops}
use Rattle.ff_factor.specs.Certificates.{berlekamp_column}
use Rattle.ff_factor.proofs.columns.columns_by_powers.Given as goal

abbrev pub invariant-loop-k : goal.invariant-loop-k
invariant-loop-k l = record {
  counted : length l.columns.items ≡ l.k - 1;
  columns : l.columns.items ≡ map (berlekamp_column (mod_ops l.f.prime) l.f.prime l.f.coefficients) (range_with_len 1 (l.k - 1));
}
