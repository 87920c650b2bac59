use Rattle.std.proofs.Common.{◌≡◌, ◌-◌, replicate, set, slice_index_or}
use Rattle.lat_session.specs.Outcomes.{operations_of}
use Rattle.lat_playing.specs.PrivatePlays.{AreReady, left_counts, Advances}
use Rattle.lat_playing.proofs.stages.play_out.Given as goal

-- as many commands as there were turns are played
abbrev pub invariant-loop-turn : goal.invariant-loop-turn
invariant-loop-turn g l = record {
  advances : Advances (operations_of l.ops.first l.ops.second l.ops.third) (replicate l._turn l.place)
      l.fn.book l.fn.players.items l.book l.players.items;
  counts : left_counts l.players.items
      ≡ set (left_counts l.fn.players.items) l.place (slice_index_or (left_counts l.fn.players.items) l.place 0 - l._turn);
  ready : AreReady l.book l.players.items;
}
