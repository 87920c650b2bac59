use Rattle.std.proofs.Common.{◌≡◌, take}
use Rattle.alg_model.specs.Maps.{constants}
use Rattle.lat_choice.proofs.narrowing.with_digits.Given as goal

abbrev pub invariant-loop-x : goal.invariant-loop-x
invariant-loop-x l = l.values.items ≡ constants l.field (take l.x-index l.x-items)
