use Rattle.std.proofs.Common.{subst}
use Rattle.lat_core.specs.Histories.{IsKnowledge}
use Rattle.lat_shared.specs.Sharing.{SharedPass, knowledge_of}
use Rattle.lat_shared.proofs.TurnLemmas.{keeps_known}
use Rattle.lat_shared.proofs.session_passes.SessionPass.front.Goals as goal

pub returns-clause-known : goal.returns-clause-known
returns-clause-known c = subst (λ (pass : SharedPass). IsKnowledge (knowledge_of pass)) c.self.view_is
    (keeps_known _ _ _ _ c.self.invariant.keeps)
