-- One player more has nothing left.
use Rattle.std.proofs.Common.{arith}
use Rattle.lat_playing.proofs.PlayedWorlds.{rest_advances, rest_others, still_within}
use Rattle.lat_playing.proofs.stages.play_rest.Goals as goal

pub play_out-requires-clause-within : goal.play_out-requires-clause-within
play_out-requires-clause-within g c =
    still_within c.args.players.now.items c.loop-place.players.items c.loop-place.place c.loop-place.invariant.others (omega arith)

pub loop-place-preserved : goal.loop-place-preserved
loop-place-preserved g c = record {
  advances = rest_advances _ c.args.book.now c.loop-place.book c.play_out.new.book c.args.players.now.items c.loop-place.players.items c.play_out.new.players.items
      c.loop-place.place (omega arith) c.loop-place.invariant.others c.loop-place.invariant.advances c.in_ok-play_out.ensures.advances;
  others = rest_others c.args.players.now.items c.loop-place.players.items c.play_out.new.players.items
      c.loop-place.place c.loop-place.invariant.others c.in_ok-play_out.ensures.counts;
  ready = c.in_ok-play_out.ensures.ready;
}
