use Rattle.std.proofs.Common.{◌≡◌, ◌-◌, ◌≤◌, length}
use Rattle.alg_model.specs.Maps.{field_values}
use Rattle.ff_polyx.proofs.ValuePlaces.{Divided}
use Rattle.ff_polyx.proofs.division.divide.Given as goal

abbrev pub invariant-loop-at : goal.invariant-loop-at
invariant-loop-at l = record {
  within : l.at ≤ length l.quotient;
  quotient_len : length l.quotient ≡ length l.initial.quotient;
  rest_len : length l.rest ≡ length l.initial.rest;
  known : Divided (field_values l.field) (length l.d - 1) l.at l.quotient l.d l.rest l.initial.rest;
}

abbrev pub decreases-loop-at : goal.decreases-loop-at
decreases-loop-at l = l.at
