use Rattle.alg_galois.proofs.EmbeddingRoots.{embeddings_differ, powers_after_embedding}
use Rattle.alg_galois.proofs.embeddings_differ_by_frobenius.Goals as goal

pub returns-clause-differ : goal.returns-clause-differ
returns-clause-differ c = λ E F V W m n D. embeddings_differ E F V W m D n

pub returns-clause-determined : goal.returns-clause-determined
returns-clause-determined c = powers_after_embedding
