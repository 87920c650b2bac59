use Rattle.std.specs.Prelude.{None}
use Rattle.alg_model.specs.Factors.{IsPolynomial}
use Rattle.alg_model.specs.Maps.{field_values}
use Rattle.alg_model.specs.Lattices.{field_at}
use Rattle.alg_choices.specs.Fitting.{Narrows}
use Rattle.lat_choice.specs.PrivateNeeded.{IsNeeded}
use Rattle.lat_choice.proofs.narrowing.narrowed.Given as goal

abbrev pub invariant-loop-d : goal.invariant-loop-d
invariant-loop-d l = let L = l.lattice in record {
  polynomial : IsPolynomial (field_values (field_at L.rows l.into)) l.polynomial;
  narrows : Narrows L l.from l.into (IsNeeded L l.from l.into) l.d None l.polynomial;
}
