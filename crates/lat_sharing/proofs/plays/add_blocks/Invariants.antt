use Rattle.std.proofs.Common.{◌≡◌, ◌++◌, map, take}
use Rattle.lat_sharing.specs.PrivateSharings.{session_blocks}
use Rattle.lat_sharing.proofs.plays.add_blocks.Given as goal

-- the blocks of the sessions so far
abbrev pub invariant-loop-i : goal.invariant-loop-i
invariant-loop-i l = record {
  blocks : l.out.items ≡ l.fn.out.items
      ++ session_blocks (take l.i l.sessions) (map (λ text. text.items) l.texts);
}
