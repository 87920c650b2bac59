use Rattle.std.proofs.Common.{◌≡◌, ◌+◌, ◌++◌, ◌≤◌, length, map, take, drop}
use Rattle.lat_language.specs.Grammar.{session_commands}
use Rattle.lat_playing.specs.PrivatePlays.{shown_player, opened, AreReady, left_count}
use Rattle.lat_playing.proofs.openings.open_players.Given as goal

-- the sessions so far have their players, and there is room for the others
abbrev pub invariant-loop-session : goal.invariant-loop-session
invariant-loop-session l = record {
  counted : length l.players.items ≡ length l.fn.players.items + l.session-index;
  players : map shown_player l.players.items
      ≡ map shown_player l.fn.players.items ++ map (opened (length l.book.entries)) (take l.session-index l.sessions);
  ready : AreReady l.book l.players.items;
  room : length l.book.entries + left_count l.players.items
      + session_commands (drop l.session-index l.sessions) ≤ l.book.room;
}
