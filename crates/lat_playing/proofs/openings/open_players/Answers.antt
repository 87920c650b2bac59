-- One player more.
use Rattle.std.proofs.Common.{arith, ◌≡◌, ◌∙◌, ap, subst, length, length-append, [], ◌∷◌}
use Rattle.lat_playing.specs.Worlds.{new_session}
use Rattle.lat_playing.specs.PrivatePlays.{shown, IsReady}
use Rattle.lat_playing.proofs.OpenedPlayers.{more_shown, opened_ready_more, opened_room_more}
use Rattle.lat_playing.proofs.openings.open_players.Goals as goal

pub overflow_cast-len : goal.overflow_cast-len
overflow_cast-len c = let counted = c.loop-session.invariant.counted in omega (arith, counted, c.len.ensures, c.requires.few)

pub loop-session-preserved : goal.loop-session-preserved
loop-session-preserved c =
    let player = c.in_ok-player.ensures.player ∙ ap (λ commands. shown (new_session (length c.args.book.now.entries) commands)) c.items.ensures in
    let size : c.len.result ≡ length c.loop-session.players.items = omega (arith, c.len.ensures) in
    let ready = subst (λ n. IsReady c.args.book.now n c.in_ok-player.player) size c.in_ok-player.ensures.ready in
    record {
      counted = omega (arith, c.loop-session.invariant.counted, ap length c.in_ok-push.ensures.items, length-append c.loop-session.players.items (c.in_ok-player.player ∷ []));
      players = more_shown (length c.args.book.now.entries) c.args.players.now.items c.loop-session.players.items c.push.new.self.items c.in_ok-player.player
          c.args.sessions.now c.loop-session.session-index c.session-item.result (omega arith) c.session-item.is c.in_ok-push.ensures.items player c.loop-session.invariant.players;
      ready = opened_ready_more c.args.book.now c.loop-session.players.items c.push.new.self.items c.in_ok-player.player
          c.args.sessions.now c.loop-session.session-index c.session-item.result (omega arith) c.session-item.is c.in_ok-push.ensures.items player c.loop-session.invariant.room
          c.loop-session.invariant.ready ready;
      room = opened_room_more c.args.book.now c.loop-session.players.items c.push.new.self.items c.in_ok-player.player
          c.args.sessions.now c.loop-session.session-index c.session-item.result (omega arith) c.session-item.is c.in_ok-push.ensures.items player c.loop-session.invariant.room;
    }
