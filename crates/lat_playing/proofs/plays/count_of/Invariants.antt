use Rattle.std.proofs.Common.{◌≡◌, ◌+◌, drop}
use Rattle.lat_language.specs.Grammar.{session_commands}
use Rattle.lat_playing.proofs.plays.count_of.Given as goal

-- what is counted, and what isn't yet
abbrev pub invariant-loop-session : goal.invariant-loop-session
invariant-loop-session l = record {
  counted : l.count + session_commands (drop l.session-index l.sessions) ≡ session_commands l.sessions;
}
