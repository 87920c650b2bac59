use Rattle.std.proofs.Common.{refl, subst}
use Rattle.lat_coerce.specs.PrivateSearches.{IsBestBelow}
use Rattle.lat_coerce.proofs.StoredPairs.{tells_true, tells_false}
use Rattle.lat_coerce.proofs.Overfields.{best_skips, best_begins}
use Rattle.lat_coerce.proofs.commons.lower.Goals as goal

pub returns-then-not-is_common : goal.returns-then-not-is_common
returns-then-not-is_common c = record {
  best = best_skips refl c.args.best (tells_false _ c.is_common.ensures.common c.if-not-is_common.true) c.requires.best;
}

pub returns-in-None : goal.returns-in-None
returns-in-None c = record {
  best = best_begins refl (tells_true _ c.is_common.ensures.common c.if-not-is_common.false)
      (subst (λ o. IsBestBelow c.args.lattice.now c.args.a c.args.b c.args.field o) c.in-None.is c.requires.best);
}
