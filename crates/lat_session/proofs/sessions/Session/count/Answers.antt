use Rattle.std.proofs.Common.{◌∙◌, ap, sym}
use Rattle.std.specs.FinMap.{len}
use Rattle.lat_session.specs.Variables.{Variables}
use Rattle.lat_session.proofs.Tables.{count_of_table}
use Rattle.lat_session.proofs.sessions.Session.count.Goals as goal

pub returns : goal.returns
returns c = c.len.ensures.len ∙ sym (count_of_table c.self.inside.variables.entries c.len.ensures.unique)
    ∙ ap (λ (vs : Variables). len vs) c.self.view_is
