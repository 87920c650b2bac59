use Rattle.std.proofs.Common.{◌≡◌, ◌-◌, ◌*◌, ◌<◌, length, map, All}
use Rattle.std.specs.List.{range_with_len}
use Rattle.alg_model.specs.Coefficients.{mod_ops}
use Rattle.alg_model.specs.Values.{degree}
use Rattle.ff_factor.specs.Certificates.{berlekamp_column}
use Rattle.ff_factor.specs.PrivateSplitting.{ArePlacesOfPower}
use Rattle.ff_factor.proofs.columns.columns_by_steps.Given as goal

abbrev pub invariant-loop-k : goal.invariant-loop-k
invariant-loop-k l = record {
  places : length l.places.items ≡ degree l.f.coefficients;
  residues : All (λ x. x < l.f.prime) l.places.items;
  last : ArePlacesOfPower l.f ((l.k - 1) * l.f.prime) l.places.items;
  counted : length l.columns.items ≡ l.k - 1;
  columns : l.columns.items ≡ map (berlekamp_column (mod_ops l.f.prime) l.f.prime l.f.coefficients) (range_with_len 1 (l.k - 1));
}
