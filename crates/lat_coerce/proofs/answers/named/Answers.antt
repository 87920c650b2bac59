use Rattle.std.proofs.Common.{sym, subst}
use Rattle.lat_core.specs.Answers.{AnswersNamed}
use Rattle.lat_core.specs.Answers.AnswersNamed.{named, unknown}
use Rattle.lat_coerce.proofs.answers.named.Goals as goal

pub returns-in-None : goal.returns-in-None
returns-in-None c = record { named = unknown c.in-None.ensures }

pub returns-in-Some : goal.returns-in-Some
returns-in-Some c = record {
  named = subst (λ x. AnswersNamed c.args.lattice.now c.args.name.now x) (sym c.known.ensures.known) (named c.in-Some.ensures);
}
