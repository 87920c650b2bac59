use Rattle.std.proofs.Common.{◌≡◌}
use Rattle.alg_model.specs.Coefficients.{power}
use Rattle.alg_model.specs.Maps.{field_values, generator}
use Rattle.alg_splitting.specs.PrivateSearch.{IsNarrowed}
use Rattle.ff_roots.proofs.conjugates.root_of_part.Given as goal

abbrev pub invariant-narrowing : goal.invariant-narrowing
invariant-narrowing l = record {
  narrowed : IsNarrowed l.field l.whole l._k l.part;
  factor : l.factor ≡ power (field_values l.field).ops (generator l.field) l._k;
  valid : (field_values l.field).Valid l.factor;
}
