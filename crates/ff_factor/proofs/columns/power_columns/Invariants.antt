use Rattle.std.proofs.Common.{◌≡◌, ◌+◌, ◌<◌, [], ◌∷◌, length, map, All}
use Rattle.std.specs.List.{range_with_len}
use Rattle.alg_model.specs.Coefficients.{mod_ops}
use Rattle.alg_model.specs.Polynomials.{poly_power}
use Rattle.alg_model.specs.Values.{degree, remainder}
use Rattle.ff_factor.specs.PrivateSplitting.{ArePlacesOfPower}
use Rattle.ff_factor.proofs.columns.power_columns.Given as goal

abbrev pub invariant-loop-j : goal.invariant-loop-j
invariant-loop-j l = record {
  places : length l.places.items ≡ degree l.f.coefficients;
  residues : All (λ x. x < l.f.prime) l.places.items;
  last : ArePlacesOfPower l.f (l.f.prime + l._j) l.places.items;
  counted : length l.columns.items ≡ l._j;
  columns : l.columns.items ≡ map (λ j. remainder (mod_ops l.f.prime) l.f.coefficients (poly_power (mod_ops l.f.prime) (0 ∷ 1 ∷ []) j)) (range_with_len l.f.prime l._j);
}
