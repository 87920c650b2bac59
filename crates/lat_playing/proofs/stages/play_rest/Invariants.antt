use Rattle.std.proofs.Common.{◌≡◌, drop, take}
use Rattle.lat_session.specs.Outcomes.{operations_of}
use Rattle.lat_playing.specs.Worlds.{rest_from}
use Rattle.lat_playing.specs.PrivatePlays.{AreReady, left_counts, Advances}
use Rattle.lat_playing.proofs.stages.play_rest.Given as goal

-- the players so far have nothing left, and the others have what they had
abbrev pub invariant-loop-place : goal.invariant-loop-place
invariant-loop-place g l = record {
  advances : Advances (operations_of l.ops.first l.ops.second l.ops.third)
      (rest_from 0 (take l.place (left_counts l.fn.players.items)))
      l.fn.book l.fn.players.items l.book l.players.items;
  others : drop l.place (left_counts l.players.items) ≡ drop l.place (left_counts l.fn.players.items);
  ready : AreReady l.book l.players.items;
}
