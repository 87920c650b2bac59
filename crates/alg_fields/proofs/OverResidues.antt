-- What the theory asks of a field, at the residues modulo a characteristic p and at the values over them.
use Rattle.std.proofs.Common.{◌≡◌, ℕ, suc, ◌*◌, ◌^◌, ◌<◌, List, length, sym, ◌∙◌, pow-suc, one-mul, ap}
use Rattle.std.proofs.Math.Nat.{pow-zero}
use Rattle.alg_model.specs.Coefficients.{mod_ops, residues, times, IsPrime}
use Rattle.alg_model.specs.Factors.{IsPolynomial, IsMonic, IsIrreducible}
use Rattle.alg_model.specs.Values.{value_ops, values}
use Rattle.alg_model.specs.Fields.{IsRing, IsField}
use Rattle.alg_rings.proofs.ResidueFields.{prime_residues_field, residues_propositional}
use Rattle.alg_fields.proofs.FiniteFields.{FieldOfSize, residues_of_size, residues_characteristic}
use Rattle.alg_fields.proofs.OnCarriers.{characteristic_of_carrier}
use Rattle.alg_fields.proofs.ValueFields.{values_propositional, values_ring, values_field}
use Rattle.alg_fields.proofs.ValueConstants.{values_characteristic}

pub first_power : (p : ℕ) → p ≡ p ^ suc 0
first_power p = sym (pow-suc p 0 ∙ ap (λ m. m * p) (pow-zero p) ∙ one-mul p)

module _ (p : ℕ) (h : IsPrime p) where
  pub size_at_residues : FieldOfSize (prime_residues_field p h).ring p
  size_at_residues = residues_of_size p (prime_residues_field p h).ring h

  pub characteristic_at_residues : times (mod_ops p) p 1 ≡ 0
  characteristic_at_residues =
      characteristic_of_carrier (residues_propositional p) (prime_residues_field p h).ring p (residues_characteristic p (prime_residues_field p h).ring)

  pub field_at_values : (f : List ℕ) → IsMonic (residues p) f → IsIrreducible (residues p) f → IsField (values (residues p) f)
  field_at_values f m i = values_field (residues_propositional p) (prime_residues_field p h) (f, i.polynomial) i.not_constant m i

  abbrev pub ring_at_values : (f : List ℕ) → IsPolynomial (residues p) f → IsMonic (residues p) f → 1 < length f → IsRing (values (residues p) f)
  ring_at_values f vf m l = values_ring (residues_propositional p) (prime_residues_field p h) (f, vf) l m

  pub characteristic_at_values : (f : List ℕ) → IsPolynomial (residues p) f → IsMonic (residues p) f → 1 < length f
      → times (value_ops (mod_ops p) f) p (value_ops (mod_ops p) f).one ≡ (value_ops (mod_ops p) f).zero
  characteristic_at_values f vf m l =
      characteristic_of_carrier (values_propositional (residues_propositional p) f) (ring_at_values f vf m l) p
      (values_characteristic (residues_propositional p) (prime_residues_field p h) (f, vf) l m p (residues_characteristic p (prime_residues_field p h).ring))
