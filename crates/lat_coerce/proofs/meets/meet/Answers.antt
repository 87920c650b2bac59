use Rattle.lat_core.specs.Answers.HasMeet.{first_not_embedded, second_not_embedded}
use Rattle.lat_coerce.proofs.StoredPairs.{tells_true, tells_false, source_within}
use Rattle.lat_coerce.proofs.CommonSubfields.{subfield_given, meet_given}
use Rattle.lat_coerce.proofs.meets.meet.Goals as goal

pub returns-then-not-is_stored : goal.returns-then-not-is_stored
returns-then-not-is_stored c = record {
  meet = first_not_embedded (tells_false _ c.is_stored.ensures.stored c.if-not-is_stored.true);
}

pub returns-then-not-is_stored-2 : goal.returns-then-not-is_stored-2
returns-then-not-is_stored-2 c = record {
  meet = second_not_embedded (tells_true _ c.is_stored.ensures.stored c.if-not-is_stored.false)
      (tells_false _ c.is_stored-2.ensures.stored c.if-not-is_stored-2.true);
}

pub degree-requires : goal.degree-requires
degree-requires c = record {
  number = source_within c.edition-edition.ensures.whole (tells_true _ c.is_stored.ensures.stored c.if-not-is_stored.false);
}

pub degree-requires-2 : goal.degree-requires-2
degree-requires-2 c = record {
  number = source_within c.edition-edition.ensures.whole (tells_true _ c.is_stored-2.ensures.stored c.if-not-is_stored-2.false);
}

pub first_of_degree-requires : goal.first_of_degree-requires
first_of_degree-requires c = record {
  some = subfield_given c.edition-edition.ensures.whole (tells_true _ c.is_stored.ensures.stored c.if-not-is_stored.false)
      (tells_true _ c.is_stored-2.ensures.stored c.if-not-is_stored-2.false) c.degree.ensures.degree c.degree-2.ensures.degree
      c.gcd-d.ensures.gcd;
}

pub returns : goal.returns
returns c = record {
  meet = meet_given c.edition-edition.ensures.whole (tells_true _ c.is_stored.ensures.stored c.if-not-is_stored.false)
      (tells_true _ c.is_stored-2.ensures.stored c.if-not-is_stored-2.false) c.degree.ensures.degree c.degree-2.ensures.degree
      c.gcd-d.ensures.gcd c.first_of_degree.ensures.first;
}
