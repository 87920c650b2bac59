use Rattle.std.proofs.Common.{ap}
use Rattle.lat_core.specs.declared.outcomes.SessionRefusal.TheVariants.{UnknownVariable}
use Rattle.lat_session.proofs.Tables.{held, not_held}
use Rattle.lat_session.proofs.sessions.Session.operand.Goals as goal

pub returns-in-Some : goal.returns-in-Some
returns-in-Some c = held c.get.result c.in-Some.value c.copy.result c.args.self.now c.key_of-key.result c.args.name.now
    c.self.inside.variables.entries c.in-Some.is c.copy.ensures c.get.ensures.value c.key_of-key.ensures c.self.view_is

pub returns-in-None : goal.returns-in-None
returns-in-None c = (
  ap UnknownVariable c.copy-in-None.ensures,
  not_held c.get.result c.args.self.now c.key_of-key.result c.args.name.now c.self.inside.variables.entries c.in-None.is
      c.get.ensures.value c.key_of-key.ensures c.self.view_is,
)
