use Rattle.alg_galois.proofs.Embeddings.{frobenius_embedding, apply_frobenius}
use Rattle.alg_galois.proofs.EmbeddingRoots.{generator_powers_agree}
use Rattle.alg_galois.proofs.FieldSizes.{generator_returns, prime_field_fixed}
use Rattle.alg_galois.proofs.frobenius_has_order_of_degree.Goals as goal

pub returns-clause-embedding : goal.returns-clause-embedding
returns-clause-embedding c = λ F W t. (frobenius_embedding F W t, apply_frobenius F W t)

pub returns-clause-orbit : goal.returns-clause-orbit
returns-clause-orbit c = generator_powers_agree

pub returns-clause-order : goal.returns-clause-order
returns-clause-order c = generator_returns

pub returns-clause-fixes : goal.returns-clause-fixes
returns-clause-fixes c = prime_field_fixed
