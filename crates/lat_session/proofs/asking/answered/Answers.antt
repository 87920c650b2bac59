use Rattle.std.proofs.Common.{subst, sym}
use Rattle.lat_core.specs.declared.questions.Answer.TheVariants as answers
use Rattle.lat_core.specs.declared.outcomes.Outcome.TheVariants as outcomes
use Rattle.lat_core.specs.Answers.{Answers}
use Rattle.lat_session.specs.Outcomes.{Shows}
use Rattle.lat_session.specs.Outcomes.Shows.{image, named, numbers, polynomial, over_field, counted, refused}
use Rattle.lat_session.proofs.AskedLines.{answered_number, not_shown}
use Rattle.lat_session.proofs.FittingPlays.{seen_compatible}
use Rattle.lat_session.proofs.asking.answered.Goals as goal

pub read-requires : goal.read-requires
read-requires g c = record { fits = (c.requires.0, c.requires.1.after, c.requires.2.0) }

pub unreachable-requires : goal.unreachable-requires
unreachable-requires g c = not_shown c.requires.2.1 (c.read.ensures.answer c.requires.0 c.requires.1.after)
    c.in_default.not-Image c.in_default.not-Is c.in_default.not-Numbers c.in_default.not-Poly c.in_default.not-RelPoly
    c.in_default.not-Counted c.in_default.not-Refused

pub name_of-requires : goal.name_of-requires
name_of-requires g c = (
  c.requires.0,
  c.requires.1,
  answered_number (seen_compatible c.requires.1)
      (c.read.ensures.answer c.requires.0 c.requires.1.after) c.in-Is.is,
)

pub returns-in-Image : goal.returns-in-Image
returns-in-Image g c = λ L s. record {
  answer = answers.Image c.in-Image.image;
  answers = subst (Answers L c.args.question.now) c.in-Image.is (c.read.ensures.answer L s.after);
  shows = image;
}

pub returns-in-Is : goal.returns-in-Is
returns-in-Is g c = λ L s. record {
  answer = answers.Is c.in-Is.number;
  answers = subst (Answers L c.args.question.now) c.in-Is.is (c.read.ensures.answer L s.after);
  shows = subst (λ n. Shows L (answers.Is c.in-Is.number) (outcomes.Named n)) (sym (c.name_of.ensures L s)) named;
}

pub returns-in-Numbers : goal.returns-in-Numbers
returns-in-Numbers g c = λ L s. record {
  answer = answers.Numbers c.in-Numbers.numbers;
  answers = subst (Answers L c.args.question.now) c.in-Numbers.is (c.read.ensures.answer L s.after);
  shows = numbers;
}

pub returns-in-Poly : goal.returns-in-Poly
returns-in-Poly g c = λ L s. record {
  answer = answers.Poly c.in-Poly.polynomial;
  answers = subst (Answers L c.args.question.now) c.in-Poly.is (c.read.ensures.answer L s.after);
  shows = polynomial;
}

pub returns-in-RelPoly : goal.returns-in-RelPoly
returns-in-RelPoly g c = λ L s. record {
  answer = answers.RelPoly c.in-RelPoly.polynomial;
  answers = subst (Answers L c.args.question.now) c.in-RelPoly.is (c.read.ensures.answer L s.after);
  shows = over_field;
}

pub returns-in-Counted : goal.returns-in-Counted
returns-in-Counted g c = λ L s. record {
  answer = answers.Counted c.in-Counted.fields c.in-Counted.maps;
  answers = subst (Answers L c.args.question.now) c.in-Counted.is (c.read.ensures.answer L s.after);
  shows = counted;
}

pub returns-in-Refused : goal.returns-in-Refused
returns-in-Refused g c = λ L s. record {
  answer = answers.Refused c.in-Refused.fault;
  answers = subst (Answers L c.args.question.now) c.in-Refused.is (c.read.ensures.answer L s.after);
  shows = subst (λ r. Shows L (answers.Refused c.in-Refused.fault) (outcomes.Refused r)) (sym c.refusal_of_fault.ensures) refused;
}
