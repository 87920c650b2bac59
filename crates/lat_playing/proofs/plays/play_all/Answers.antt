-- The prologue, the schedule and the rest.
use Rattle.std.proofs.Common.{◌≡◌, ◌+◌, ◌++◌, map, length, subst}
use Rattle.lat_session.specs.Outcomes.{operations_of}
use Rattle.lat_playing.specs.PrivatePlays.{shown_player, opened, Advances, HasPrologue}
use Rattle.lat_playing.proofs.PlayedScripts.{script_played}
use Rattle.lat_playing.proofs.plays.play_all.Goals as goal

pub returns : goal.returns
returns g c =
    let operations = operations_of c.args.ops.now.first c.args.ops.now.second c.args.ops.now.third in
    script_played operations c.args.book.now c.play_prologue.new.book c.play_schedule.new.book c.play_rest.new.book c.args.script.now
    c.in_ok-players.players.items c.open_players.new.players.items c.play_schedule.new.players.items c.play_rest.new.players.items
    (subst (λ commands. HasPrologue operations c.args.book.now commands c.play_prologue.new.book c.in_ok-players.players.items) c.items.ensures c.in_ok-players.ensures.played)
    (subst (λ sessions. map shown_player c.open_players.new.players.items ≡ map shown_player c.in_ok-players.players.items ++ map (opened (length c.play_prologue.new.book.entries)) sessions)
    c.items-2.ensures c.in_ok-open_players.ensures.players)
    (subst (λ schedule. Advances operations (map (λ place. place + 1) schedule) c.play_prologue.new.book c.open_players.new.players.items c.play_schedule.new.book c.play_schedule.new.players.items)
    c.items-3.ensures c.in_ok-play_schedule.ensures.advances)
    c.in_ok-play_rest.ensures.advances
