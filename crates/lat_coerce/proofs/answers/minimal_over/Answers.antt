use Rattle.std.proofs.Common.{sym, subst}
use Rattle.alg_model.specs.Lattices.{Stored}
use Rattle.lat_core.specs.SharedRows.{IsBetween}
use Rattle.lat_core.specs.Answers.HasMinimalOver.{not_embedded}
use Rattle.lat_coerce.proofs.StoredPairs.{missing_pair, source_within}
use Rattle.lat_coerce.proofs.GivenAnswers.{over_given}
use Rattle.lat_coerce.proofs.answers.minimal_over.Goals as goal

pub field-requires : goal.field-requires
field-requires c = record {
  number = source_within c.edition-edition.ensures.whole (c.in-Some.map.now.images, c.in-Some.ensures.0);
}

pub returns-in-None : goal.returns-in-None
returns-in-None c = record {
  minimal = not_embedded (missing_pair c.args.lattice.now c.args.over c.args.value.now.field c.in-None.ensures);
}

pub returns-in-Some : goal.returns-in-Some
returns-in-Some c = record {
  minimal = over_given c.args.lattice.now c.args.value.now c.args.over c.embedding.result c.over_in.result
      (subst (λ e. Stored c.args.lattice.now c.args.over c.args.value.now.field e.images
      × IsBetween c.args.lattice.now.rows c.args.over c.args.value.now.field e)
      (sym c.embedding.ensures.same) c.in-Some.ensures) c.over_in.ensures;
}
