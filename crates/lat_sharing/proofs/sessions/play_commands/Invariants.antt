use Rattle.std.proofs.Common.{◌≡◌, take}
use Rattle.lat_core.specs.Histories.{IsSameSession}
use Rattle.lat_session.specs.Outcomes.{operations_of}
use Rattle.lat_session.specs.Playing.{FitSeen}
use Rattle.lat_sharing.proofs.PlayedCommands.{HasCome}
use Rattle.lat_sharing.proofs.sessions.play_commands.Given as goal

-- the commands so far are played, and the session can go on
abbrev pub invariant-loop-command : goal.invariant-loop-command
invariant-loop-command g l = record {
  come : HasCome (operations_of l.ops.first l.ops.second l.ops.third)
      (g.P.Port.knowledge l.fn.port) (take l.command-index l.commands)
      (g.P.Port.knowledge l.port) l.session l.text.items;
  fit : FitSeen (g.P.Port.knowledge l.port) l.session;
  same : IsSameSession (g.P.Port.knowledge l.fn.port) (g.P.Port.knowledge l.port);
  borrowed : g.P.Port.borrows l.port ≡ g.P.Port.borrows l.fn.port;
}
