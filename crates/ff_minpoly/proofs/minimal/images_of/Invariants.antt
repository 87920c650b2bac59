use Rattle.std.proofs.Common.{◌≡◌, take}
use Rattle.ff_minpoly.proofs.minimal.images_of.Given as goal

abbrev pub invariant-loop-k : goal.invariant-loop-k
invariant-loop-k l = l.images.items ≡ take l.k l.map.images
