use Rattle.std.proofs.Common.{take}
use Rattle.ff_polyx.specs.Images.{AreImages}
use Rattle.ff_polyx.proofs.polynomials.PolyX.map_by.Given as goal

-- the images so far
abbrev pub invariant-loop-x : goal.invariant-loop-x
invariant-loop-x g l = AreImages g.M.Fn l.m (take l.x-index l.a) l.images.items
