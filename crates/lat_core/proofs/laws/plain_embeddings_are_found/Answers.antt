use Rattle.lat_core.proofs.StepKeeps.{plain_embedding_found}
use Rattle.lat_core.proofs.laws.plain_embeddings_are_found.Goals as goal

pub returns : goal.returns
returns c = record { found = plain_embedding_found }
