use Rattle.std.proofs.Common.{◌≡◌, ◌++◌, take, drop}
use Rattle.lat_playing.specs.PrivateTranscripts.{player_blocks}
use Rattle.lat_playing.proofs.transcripts.add_blocks.Given as goal

-- the blocks of the sessions so far
abbrev pub invariant-loop-i : goal.invariant-loop-i
invariant-loop-i l = record {
  blocks : l.out.items ≡ l.fn.out.items
      ++ player_blocks (take l.i l.sessions) (drop 1 l.players);
}
