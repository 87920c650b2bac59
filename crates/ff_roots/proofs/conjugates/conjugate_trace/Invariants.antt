use Rattle.std.proofs.Common.{◌≡◌, ◌^◌, length, All}
use Rattle.alg_model.specs.Coefficients.{power}
use Rattle.alg_model.specs.Maps.{field_values, generator, degree_of, constants}
use Rattle.alg_splitting.specs.PrivateSearch.{IsConjugateSumAtRoots}
use Rattle.ff_roots.proofs.conjugates.conjugate_trace.Given as goal

abbrev pub invariant-conjugates : goal.invariant-conjugates
invariant-conjugates l = let F = l.field in let E = l.source in record {
  len : length l.places.items ≡ degree_of E;
  values : All (field_values F).Valid l.places.items;
  multiple : l.multiple ≡ power (field_values F).ops l.factor (F.characteristic ^ l._i);
  multiple_valid : (field_values F).Valid l.multiple;
  power : l.power ≡ power (field_values E).ops (generator E) (E.characteristic ^ l._i);
  power_valid : (field_values E).Valid l.power;
  sum : IsConjugateSumAtRoots F (constants F E.polynomial) l.factor l._i l.places.items;
}
