use Rattle.lat_core.specs.declared.outcomes.Outcome.TheVariants.{Val}
use Rattle.lat_session.proofs.keeping.shown.Goals as goal

pub returns : goal.returns
returns g c = λ L s i. Val (c.name_of.ensures L s i) (c.copy.ensures i)
