use Rattle.std.proofs.Common.{length, sym, subst}
use Rattle.lat_core.specs.declared.questions.Question.TheVariants.{FieldAt, Count}
use Rattle.lat_core.specs.declared.questions.Answer.TheVariants.{Numbers, Poly, Counted}
use Rattle.lat_core.specs.Answers.{Answers}
use Rattle.lat_core.specs.Answers.Answers.{field_named, field_number, map, lift, common, meets, subfields, minimal_over, count}
use Rattle.lat_coerce.proofs.GivenAnswers.{prime_given}
use Rattle.lat_coerce.proofs.answers.answer.Goals as goal

pub returns-in-FieldNamed : goal.returns-in-FieldNamed
returns-in-FieldNamed c = record {
  answer = subst (λ q. Answers c.args.lattice.now q c.named.result) (sym c.in-FieldNamed.is) (field_named c.named.ensures.named);
}

pub returns-in-FieldAt : goal.returns-in-FieldAt
returns-in-FieldAt c = record {
  answer = subst (λ q. Answers c.args.lattice.now q c.known.result) (sym c.in-FieldAt.is) (subst (λ x. Answers c.args.lattice.now (FieldAt c.in-FieldAt.number) x) (sym c.known.ensures.known) field_number);
}

pub returns-in-Map : goal.returns-in-Map
returns-in-Map c = record {
  answer = subst (λ q. Answers c.args.lattice.now q c.image.result) (sym c.in-Map.is) (map c.image.ensures.image);
}

pub returns-in-Lift : goal.returns-in-Lift
returns-in-Lift c = record {
  answer = subst (λ q. Answers c.args.lattice.now q c.lifted.result) (sym c.in-Lift.is) (lift c.lifted.ensures.lifted);
}

pub returns-in-Common : goal.returns-in-Common
returns-in-Common c = record {
  answer = subst (λ q. Answers c.args.lattice.now q c.common_field.result) (sym c.in-Common.is) (common c.common_field.ensures.common);
}

pub returns-in-Meet : goal.returns-in-Meet
returns-in-Meet c = record {
  answer = subst (λ q. Answers c.args.lattice.now q c.meeting_field.result) (sym c.in-Meet.is) (meets c.meeting_field.ensures.meet);
}

pub returns-in-Subfields : goal.returns-in-Subfields
returns-in-Subfields c = record {
  answer = subst (λ q. Answers c.args.lattice.now q (Numbers c.subfields.result)) (sym c.in-Subfields.is) (subfields c.subfields.ensures.exactly);
}

pub returns-in-MinPoly : goal.returns-in-MinPoly
returns-in-MinPoly c = record {
  answer = subst (λ q. Answers c.args.lattice.now q (Poly c.over_prime.result)) (sym c.in-MinPoly.is) (prime_given c.args.lattice.now c.in-MinPoly.value c.field.result.now c.over_prime.result c.field.ensures.field
      c.over_prime.ensures.prime c.over_prime.ensures.minimal);
}

pub returns-in-MinPolyOver : goal.returns-in-MinPolyOver
returns-in-MinPolyOver c = record {
  answer = subst (λ q. Answers c.args.lattice.now q c.minimal_over.result) (sym c.in-MinPolyOver.is) (minimal_over c.minimal_over.ensures.minimal);
}

pub returns-in-Count : goal.returns-in-Count
returns-in-Count c = record {
  answer = subst (λ q. Answers c.args.lattice.now q (Counted c.fields.result c.maps.result)) (sym c.in-Count.is) (
      subst (λ n. Answers c.args.lattice.now Count (Counted n c.maps.result)) (sym c.fields.ensures.value)
      (subst (λ n. Answers c.args.lattice.now Count (Counted (length c.args.lattice.now.rows) n)) (sym c.maps.ensures) count));
}
