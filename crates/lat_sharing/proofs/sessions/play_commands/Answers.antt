-- One command more.
use Rattle.std.proofs.Common.{[], sym, ◌∙◌, subst, arith, refl}
use Rattle.std.proofs.lemmas.List.{take_all}
use Rattle.lat_session.specs.Outcomes.{operations_of}
use Rattle.lat_session.specs.Playing.{FitSeen}
use Rattle.lat_sharing.proofs.PlayedCommands.{HasCome, fit_first, same_itself, same_on, same_over, none_yet, come_on, has_come}
use Rattle.lat_sharing.proofs.sessions.play_commands.Goals as goal

pub loop-command-init : goal.loop-command-init
loop-command-init g c =
    let operations = operations_of c.args.ops.now.first c.args.ops.now.second c.args.ops.now.third in
    let k = g.P.Port.knowledge c.args.port.now in
    record {
      come = subst (λ text. HasCome operations k [] k c.open-session.result text) (sym c.new-text.ensures.items)
          (subst (λ variables. HasCome operations k [] k variables []) (sym c.open-session.ensures) (none_yet operations k));
      fit = subst (FitSeen k) (sym c.open-session.ensures) (fit_first k c.requires.edition c.front-front.ensures.known);
      same = same_itself k;
      borrowed = refl;
    }

pub returns-in_err-add_line-clause-same : goal.returns-in_err-add_line-clause-same
returns-in_err-add_line-clause-same g c =
    same_on _ _ _ c.loop-command.invariant.same
    (same_over _ _ _ _ _ _ _ c.in_ok-line.ensures.line)

pub loop-command-preserved : goal.loop-command-preserved
loop-command-preserved g c = record {
  come = come_on _ _ _ _ _ _ c.args.commands.now c.loop-command.command-index c.command-item.result c.in_ok-line.line
      c.loop-command.text.items c.add_line.new.out.items (omega arith) c.command-item.is c.loop-command.invariant.come
      c.in_ok-line.ensures.line c.in_ok-add_line.ensures.ok;
  fit = c.play.ensures.fit;
  same = same_on _ _ _ c.loop-command.invariant.same (same_over _ _ _ _ _ _ _ c.in_ok-line.ensures.line);
  borrowed = c.play.ensures.borrowed ∙ c.loop-command.invariant.borrowed;
}

pub returns-clause-played : goal.returns-clause-played
returns-clause-played g c =
    has_come _ _ _ _ c.args.commands.now _
    (subst (λ commands. HasCome (operations_of c.args.ops.now.first c.args.ops.now.second c.args.ops.now.third) (g.P.Port.knowledge c.args.port.now) commands (g.P.Port.knowledge c.loop-command.port) c.loop-command.session c.loop-command.text.items)
    (take_all c.loop-command.command-index c.args.commands.now (omega (arith, c.loop-command-test.false))) c.loop-command.invariant.come)
