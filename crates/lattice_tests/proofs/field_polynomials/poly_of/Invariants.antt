use Rattle.std.proofs.Common.{All}
use Rattle.alg_model.specs.Maps.{field_values}
use Rattle.lattice_tests.proofs.field_polynomials.poly_of.Given as goal

-- the values so far are values of the field
abbrev pub invariant-loop-c : goal.invariant-loop-c
invariant-loop-c g l = All (field_values l.field).Valid l.values.items
