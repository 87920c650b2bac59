use Rattle.lat_insert.proofs.EmbeddableFields.{embeddable_embedded, embeddable_has_reply, only_embeddable, embedding_stored}
use Rattle.lat_insert.proofs.laws.plain_embeddings_are_embedded.Goals as goal

pub returns-clause-embedded : goal.returns-clause-embedded
returns-clause-embedded c = embeddable_embedded

pub returns-clause-exists : goal.returns-clause-exists
returns-clause-exists c = embeddable_has_reply

pub returns-clause-only : goal.returns-clause-only
returns-clause-only c = only_embeddable

pub returns-clause-stored : goal.returns-clause-stored
returns-clause-stored c = embedding_stored
