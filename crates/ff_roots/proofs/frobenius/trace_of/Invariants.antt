use Rattle.std.proofs.Common.{◌≡◌, ◌+◌, ◌^◌, length, All}
use Rattle.alg_model.specs.Coefficients.{power}
use Rattle.alg_model.specs.Maps.{field_values}
use Rattle.alg_splitting.specs.PrivateSearch.{IsConjugateSumAtRoots}
use Rattle.ff_roots.proofs.frobenius.trace_of.Given as goal

abbrev pub invariant-conjugates : goal.invariant-conjugates
invariant-conjugates l = let F = l.field in record {
  len : length l.places.items + 1 ≡ length l.g;
  values : All (field_values F).Valid l.places.items;
  multiple : l.multiple ≡ power (field_values F).ops l.factor (F.characteristic ^ l.i);
  multiple_valid : (field_values F).Valid l.multiple;
  sum : IsConjugateSumAtRoots F l.g l.factor l.i l.places.items;
}
