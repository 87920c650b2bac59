use Rattle.std.proofs.Common.{◌≡◌, map, take}
use Rattle.alg_model.specs.Lattices.{prime_row}
use Rattle.lat_core.proofs.opening.prime_fields.Given as goal

abbrev pub invariant-loop-p : goal.invariant-loop-p
invariant-loop-p l = l.fields.items ≡ map prime_row (take l.p-index l.p-items)
