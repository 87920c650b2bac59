-- The residues modulo a prime form a field.
use Rattle.std.proofs.Common.{ℕ, ◌%◌, ◌≤◌, mod-lt, ◌∙◌, arith}
use Rattle.std.proofs.lemmas.Nat.{mul-mod_second}
use native.Mathlib.Nat.{ℕ_set}
use native.Mathlib.Bridge.{le_prop}
use Rattle.alg_model.specs.Coefficients.{residues, IsPrime, IsCharacteristic}
use Rattle.alg_model.specs.Fields.{IsField}
use Rattle.alg_rings.specs.Laws.{IsPropositional}
use Rattle.alg_rings.proofs.Residues.{residues_ring}
use Rattle.alg_rings.proofs.Primes.{inverse_modulo, characteristic_is_prime}

pub residues_propositional : (p : ℕ) → IsPropositional (residues p)
residues_propositional p = record { set = ℕ_set; valid = λ x. le_prop }

pub prime_residues_field : (p : ℕ) → IsPrime p → IsField (residues p)
prime_residues_field p prime = record {
  ring = residues_ring p prime.above_one;
  one_not_zero = λ e. absurd (omega (arith, e));
  inverse = λ a l n.
      let (u, e) = inverse_modulo p prime a (omega arith) l in
      (u % p, mod-lt u (omega (arith, prime.above_one)), mul-mod_second a u p ∙ e);
}

pub two_le_characteristic : (p : ℕ) → IsCharacteristic p → 2 ≤ p
two_le_characteristic p h = (characteristic_is_prime p h).above_one

abbrev pub residues_field : (p : ℕ) → IsCharacteristic p → IsField (residues p)
residues_field p h = prime_residues_field p (characteristic_is_prime p h)
