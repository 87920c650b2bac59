-- One player plays, or there is none.
use Rattle.std.proofs.Common.{rules, arith}
use Rattle.lat_playing.proofs.PlayedWorlds.{advances_past, one_advances, one_counts, one_ready}
use Rattle.lat_playing.proofs.stages.play_at.Goals as goal

pub returns-then-place-len-clause-advances : goal.returns-then-place-len-clause-advances
returns-then-place-len-clause-advances g c =
    advances_past c.args.book.now c.args.players.now.items c.args.place (omega arith) _

pub returns-clause-advances : goal.returns-clause-advances
returns-clause-advances g c =
    one_advances c.args.book.now c.args.players.now.items c.args.place c.index_mut.result.now c.play_next.new.book c.play_next.new.self
    (omega arith) c.requires.ready _ c.play_next.result (search rules) c.play_next.ensures

pub returns-clause-counts : goal.returns-clause-counts
returns-clause-counts g c =
    one_counts c.args.book.now c.args.players.now.items c.args.place c.index_mut.result.now c.play_next.new.book c.play_next.new.self
    (omega arith) c.requires.ready _ c.play_next.result (search rules) c.play_next.ensures

pub returns-clause-ready : goal.returns-clause-ready
returns-clause-ready g c =
    one_ready c.args.book.now c.args.players.now.items c.args.place c.index_mut.result.now c.play_next.new.book c.play_next.new.self
    (omega arith) c.requires.ready _ c.play_next.result (search rules) c.play_next.ensures
