use Rattle.alg_galois.proofs.Embeddings.{embedding_is_powers_of_image, embedding_injective}
use Rattle.alg_galois.proofs.EmbeddingRoots.{embedding_of_root, generator_image_root}
use Rattle.alg_galois.proofs.embeddings_are_roots.Goals as goal

pub returns-clause-root : goal.returns-clause-root
returns-clause-root c = embedding_of_root

pub returns-clause-powers : goal.returns-clause-powers
returns-clause-powers c = λ E F V W m D. (generator_image_root E F V W m D, embedding_is_powers_of_image E F V W m D)

pub returns-clause-injective : goal.returns-clause-injective
returns-clause-injective c = embedding_injective
