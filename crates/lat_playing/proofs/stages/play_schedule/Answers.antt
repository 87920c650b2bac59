-- One place more of the schedule.
use Rattle.std.proofs.Common.{rules, arith}
use Rattle.lat_playing.proofs.PlayedWorlds.{schedule_advances}
use Rattle.lat_playing.proofs.stages.play_schedule.Goals as goal

pub loop-place-preserved : goal.loop-place-preserved
loop-place-preserved g c = record {
  advances = schedule_advances _ c.args.book.now c.loop-place.book c.play_at.new.book c.args.players.now.items c.loop-place.players.items c.play_at.new.players.items
      c.args.schedule.now c.loop-place.place-index _ (omega arith) (search rules) c.loop-place.invariant.advances c.in_ok-play_at.ensures.advances;
  ready = c.in_ok-play_at.ensures.ready;
}
