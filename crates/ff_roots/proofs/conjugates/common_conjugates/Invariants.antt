use Rattle.std.proofs.Common.{◌≡◌, ◌↔◌, ℕ, ◌^◌, ◌<◌, ◌≤◌, List, length}
use Rattle.std.specs.List.{Contains}
use Rattle.alg_model.specs.Coefficients.{power}
use Rattle.alg_model.specs.Maps.{field_values}
use Rattle.alg_model.specs.Roots.{IsRoot}
use Rattle.ff_roots.specs.PrivateCollecting.{IsRising}
use Rattle.ff_roots.proofs.conjugates.common_conjugates.Given as goal

abbrev pub invariant-conjugates : goal.invariant-conjugates
invariant-conjugates l = let o = (field_values l.field).ops in record {
  list : IsRising l.field l.list;
  count : length l.list ≤ l._t;
  conjugate : l.conjugate ≡ power o l.v (l.field.characteristic ^ l._t);
  valid : (field_values l.field).Valid l.conjugate;
  members : (w : List ℕ) → Contains l.list w
      ↔ (((s : ℕ) × (s < l._t) × (power o l.v (l.field.characteristic ^ s) ≡ w))
      × IsRoot l.field l.g w);
}
