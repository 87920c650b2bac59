use Rattle.alg_rings.proofs.Primes.{characteristic_is_prime}
use Rattle.alg_rings.proofs.characteristics_are_prime.Goals as goal

pub returns : goal.returns
returns c = characteristic_is_prime
