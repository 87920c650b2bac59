use Rattle.lat_history.proofs.PassLemmas.{pass_knowledge}
use Rattle.lat_history.proofs.solo_ports.SoloPortPort.front.Goals as goal

pub returns-clause-known : goal.returns-clause-known
returns-clause-known c = pass_knowledge c.args.self.now.book.now c.args.self.now.pass.now c.length-length.ensures.whole
