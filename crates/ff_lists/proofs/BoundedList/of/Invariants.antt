use Rattle.std.proofs.Common.{◌≡◌, take}
use Rattle.ff_lists.proofs.BoundedList.of.Given as goal

-- the items so far
abbrev pub invariant-loop-item : goal.invariant-loop-item
invariant-loop-item g l = l.list ≡ take l.item-index l.items
