use Rattle.lat_core.specs.Answers.AnswersMap.{not_embedded}
use Rattle.lat_coerce.proofs.StoredPairs.{missing_pair}
use Rattle.lat_coerce.proofs.GivenAnswers.{image_given}
use Rattle.lat_coerce.proofs.answers.image.Goals as goal

pub returns-in-None : goal.returns-in-None
returns-in-None c = record {
  image = not_embedded (missing_pair c.args.lattice.now c.args.from c.args.into c.in-None.ensures);
}

pub returns-in-Some : goal.returns-in-Some
returns-in-Some c = record {
  image = image_given c.args.lattice.now c.args.from c.args.into c.in-Some.map.now c.image.result c.in-Some.ensures c.image.ensures.value;
}
