use Rattle.std.proofs.lemmas.Result.{MatchResult-weaker}
use Rattle.lat_shared.proofs.TurnLemmas.{book_refused}
use Rattle.lat_shared.proofs.shared_ports.SharedPortPort.change.Goals as goal

pub returns-clause-fault : goal.returns-clause-fault
returns-clause-fault g c = MatchResult-weaker c.change.result c.change.ensures.fault (λ placed t. t) (λ fault full. book_refused c.change.new.pass fault full)
