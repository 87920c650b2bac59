use Rattle.std.proofs.Common.{ap, subst}
use Rattle.lat_core.specs.declared.outcomes.SessionRefusal.TheVariants.{UnknownField}
use Rattle.lat_core.specs.Step.{IsNamed}
use Rattle.lat_session.specs.Outcomes.{IsFieldWord}
use Rattle.lat_session.proofs.Questioned.{named_known, not_named, named_or_not}
use Rattle.lat_session.proofs.reading.field_word.Goals as goal

pub read-requires : goal.read-requires
read-requires g c = record { fits = (c.requires.0, c.requires.1.after, tt) }

pub unreachable-requires : goal.unreachable-requires
unreachable-requires g c = named_or_not (c.read.ensures.answer c.requires.0 c.requires.1.after) c.in_default.not-Known c.in_default.not-Unknown

pub returns-in-Known : goal.returns-in-Known
returns-in-Known g c = λ L s. subst (IsNamed L c.in-Known.number) c.copy.ensures
    (named_known (c.read.ensures.answer L s.after) c.in-Known.is)

pub returns-in-Unknown : goal.returns-in-Unknown
returns-in-Unknown g c = λ L s. (
  ap UnknownField c.copy-in-Unknown.ensures,
  subst (λ n. ¬ IsFieldWord L n) c.copy.ensures (not_named (c.read.ensures.answer L s.after) c.in-Unknown.is),
)
