use Rattle.std.proofs.Common.{◌≡◌, ◌-◌, ◌++◌, length, replicate, take}
use Rattle.alg_model.specs.Maps.{field_values}
use Rattle.ff_polyx.proofs.places.padded.Given as goal

-- the values so far
abbrev pub invariant-copies : goal.invariant-copies
invariant-copies l = l.places.items ≡ take l.x-index l.c

abbrev pub invariant-zeros : goal.invariant-zeros
invariant-zeros l = l.places.items
    ≡ l.c ++ replicate (l._k - length l.c) (field_values l.field).ops.zero
