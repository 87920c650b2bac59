use Rattle.std.proofs.Common.{subst, sym}
use Rattle.std.specs.Prelude.{Err}
use Rattle.lat_core.specs.Answers.{LiftsTo}
use Rattle.lat_session.specs.Outcomes.{Lifts}
use Rattle.lat_session.specs.Outcomes.Lifts.{not_lifted, value}
use Rattle.lat_session.proofs.Questioned.{lifts, lifts_or_not}
use Rattle.lat_session.proofs.combining.lifted.Goals as goal

pub read-requires : goal.read-requires
read-requires g c = record { fits = (c.requires.0, c.requires.1.after, c.requires.2) }

pub unreachable-requires : goal.unreachable-requires
unreachable-requires g c = lifts_or_not (c.read.ensures.answer c.requires.0 c.requires.1.after) c.in_default.not-Lifted c.in_default.not-Refused

pub returns-in-Lifted : goal.returns-in-Lifted
returns-in-Lifted g c = λ L s. value (subst (LiftsTo L c.args.value c.args.to) c.in-Lifted.is (lifts (c.read.ensures.answer L s.after)))

pub returns-in-Refused : goal.returns-in-Refused
returns-in-Refused g c = λ L s. subst (λ r. Lifts L c.args.value c.args.to (Err r)) (sym c.refusal_of_fault.ensures)
    (not_lifted (subst (LiftsTo L c.args.value c.args.to) c.in-Refused.is (lifts (c.read.ensures.answer L s.after))))
