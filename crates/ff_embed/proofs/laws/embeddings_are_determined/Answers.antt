use Rattle.ff_embed.proofs.Undoing.{image_determines, through_determined}
use Rattle.ff_embed.proofs.laws.embeddings_are_determined.Goals as goal

pub returns-clause-image : goal.returns-clause-image
returns-clause-image c = image_determines

pub returns-clause-through : goal.returns-clause-through
returns-clause-through c = through_determined
