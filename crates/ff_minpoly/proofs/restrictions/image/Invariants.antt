use Rattle.std.proofs.Common.{◌≡◌, take, map, All}
use Rattle.alg_model.specs.Maps.{field_values, apply}
use Rattle.ff_minpoly.proofs.restrictions.image.Given as goal

abbrev pub invariant-loop-c : goal.invariant-loop-c
invariant-loop-c l = record {
  images : l.images.items ≡ map (apply l.into.target l.into.images) (take l.c-index l.coefficients);
  valid : All (field_values l.into.target).Valid l.images.items;
}
