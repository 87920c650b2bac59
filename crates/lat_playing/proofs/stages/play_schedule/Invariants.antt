use Rattle.std.proofs.Common.{◌+◌, map, take}
use Rattle.lat_session.specs.Outcomes.{operations_of}
use Rattle.lat_playing.specs.PrivatePlays.{AreReady, Advances}
use Rattle.lat_playing.proofs.stages.play_schedule.Given as goal

-- the places so far are played
abbrev pub invariant-loop-place : goal.invariant-loop-place
invariant-loop-place g l = record {
  advances : Advances (operations_of l.ops.first l.ops.second l.ops.third)
      (map (λ place. place + 1) (take l.place-index l.schedule))
      l.fn.book l.fn.players.items l.book l.players.items;
  ready : AreReady l.book l.players.items;
}
