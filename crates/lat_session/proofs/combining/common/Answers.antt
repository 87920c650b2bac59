use Rattle.std.proofs.Common.{subst, sym}
use Rattle.std.specs.Prelude.{Err}
use Rattle.lat_core.specs.Answers.{HasCommon}
use Rattle.lat_session.specs.PrivateCombining.{IsCommonField}
use Rattle.lat_session.specs.PrivateCombining.IsCommonField.{field, none}
use Rattle.lat_session.proofs.Questioned.{is_common, common_or_not}
use Rattle.lat_session.proofs.combining.common.Goals as goal

pub read-requires : goal.read-requires
read-requires g c = record { fits = (c.requires.0, c.requires.1.after, c.requires.2) }

pub unreachable-requires : goal.unreachable-requires
unreachable-requires g c = common_or_not (c.read.ensures.answer c.requires.0 c.requires.1.after) c.in_default.not-Is c.in_default.not-Refused

pub returns-in-Is : goal.returns-in-Is
returns-in-Is g c = λ L s. field (subst (HasCommon L c.args.a c.args.b) c.in-Is.is (is_common (c.read.ensures.answer L s.after)))

pub returns-in-Refused : goal.returns-in-Refused
returns-in-Refused g c = λ L s. subst (λ r. IsCommonField L c.args.a c.args.b (Err r)) (sym c.refusal_of_fault.ensures)
    (none (subst (HasCommon L c.args.a c.args.b) c.in-Refused.is (is_common (c.read.ensures.answer L s.after))))
