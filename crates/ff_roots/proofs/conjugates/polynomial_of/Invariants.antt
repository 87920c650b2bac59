use Rattle.std.proofs.Common.{◌≡◌, take}
use Rattle.alg_model.specs.Maps.{constants}
use Rattle.ff_roots.proofs.conjugates.polynomial_of.Given as goal

abbrev pub invariant-loop-c : goal.invariant-loop-c
invariant-loop-c l = l.values.items ≡ constants l.field (take l.c-index l.c-items)
