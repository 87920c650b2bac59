use Rattle.lat_coerce.proofs.StoredPairs.{tells_true, tells_false}
use Rattle.lat_coerce.proofs.Overfields.{common_first, common_second, common_found, common_missing}
use Rattle.lat_coerce.proofs.commons.common.Goals as goal

pub returns-then-is_stored : goal.returns-then-is_stored
returns-then-is_stored c = record {
  common = common_first c.edition-edition.ensures.whole (tells_true _ c.is_stored.ensures.stored c.if-is_stored.true);
}

pub returns-then-is_stored-2 : goal.returns-then-is_stored-2
returns-then-is_stored-2 c = record {
  common = common_second c.edition-edition.ensures.whole (tells_false _ c.is_stored.ensures.stored c.if-is_stored.false)
      (tells_true _ c.is_stored-2.ensures.stored c.if-is_stored-2.true);
}

pub returns-in-None : goal.returns-in-None
returns-in-None c = record {
  common = common_missing c.edition-edition.ensures.whole (tells_false _ c.is_stored.ensures.stored c.if-is_stored.false)
      (tells_false _ c.is_stored-2.ensures.stored c.if-is_stored-2.false) c.in-None.ensures.best;
}

pub returns-in-Some : goal.returns-in-Some
returns-in-Some c = record {
  common = common_found c.edition-edition.ensures.whole (tells_false _ c.is_stored.ensures.stored c.if-is_stored.false)
      (tells_false _ c.is_stored-2.ensures.stored c.if-is_stored-2.false) c.in-Some.ensures.best;
}
