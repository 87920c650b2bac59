-- One turn more.
use Rattle.lat_playing.proofs.PlayedWorlds.{turn_advances, turn_counts}
use Rattle.lat_playing.proofs.stages.play_out.Goals as goal

pub loop-turn-preserved : goal.loop-turn-preserved
loop-turn-preserved g c = record {
  advances = turn_advances _ c.args.book.now c.loop-turn.book c.play_at.new.book c.args.players.now.items c.loop-turn.players.items c.play_at.new.players.items
      c.args.place c.loop-turn._turn c.loop-turn.invariant.advances c.in_ok-play_at.ensures.advances;
  counts = turn_counts c.args.players.now.items c.loop-turn.players.items c.play_at.new.players.items
      c.args.place c.loop-turn._turn c.requires.within c.loop-turn.invariant.counts c.in_ok-play_at.ensures.counts;
  ready = c.in_ok-play_at.ensures.ready;
}
