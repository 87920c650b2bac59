use Rattle.std.proofs.Common.{ap}
use Rattle.lat_history.specs.Passes.{Pass}
use Rattle.lat_history.proofs.PassLemmas.{pass_knowledge, pass_stays, pass_moves, entry_placed}
use Rattle.lat_history.proofs.solo_ports.SoloPortPort.change.Goals as goal

pub invariant_of-self : goal.invariant_of-self
invariant_of-self c =
    let p = pass_stays c.number.result c.args.request.now c.args.self.now.book.now c.play.new.self c.args.self.now.pass.now c.play.result
    c.play.ensures.played c.play.ensures.kept (record { within = c.args.self.now.within; view = c.args.self.now.view }) in
    record { within = p.within; view = p.view }

pub returns-in_err-played-clause-known : goal.returns-in_err-played-clause-known
returns-in_err-played-clause-known c = pass_knowledge c.play.new.self c.args.self.now.pass.now c.play.ensures.whole

pub invariant_of-self-2 : goal.invariant_of-self-2
invariant_of-self-2 c =
    let p = pass_moves c.advance.new.self c.in_ok-played.played c.in_ok-played.ensures.whole c.in_ok-played.ensures.played
    (ap (λ (p : Pass). p.front) c.advance.ensures.value) (ap (λ (p : Pass). p.view) c.advance.ensures.value) in
    record { within = p.within; view = p.view }

pub returns-clause-placed : goal.returns-clause-placed
returns-clause-placed c = entry_placed c.args.self.now.pass.now c.advance.new.self c.in_ok-played.played
    c.in_ok-played.ensures.played c.number.ensures.value
    (ap (λ (p : Pass). p.number) c.advance.ensures.value) (ap (λ (p : Pass). p.front) c.advance.ensures.value)

pub returns-clause-known : goal.returns-clause-known
returns-clause-known c = pass_knowledge c.play.new.self c.advance.new.self c.in_ok-played.ensures.whole
