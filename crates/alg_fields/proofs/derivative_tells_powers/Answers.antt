use Rattle.alg_rings.proofs.ResidueFields.{prime_residues_field, residues_propositional}
use Rattle.alg_fields.proofs.OverResidues.{size_at_residues, characteristic_at_residues, first_power}
use Rattle.alg_fields.proofs.Certificates.{derivative_zero_iff, square_divides_derivative}
use Rattle.alg_fields.proofs.FiniteFields.{residues_characteristic}
use Rattle.alg_fields.proofs.OnCarriers.{derivative_zero_iff_places}
use Rattle.alg_fields.proofs.derivative_tells_powers.Goals as goal

pub returns-clause-places : goal.returns-clause-places
returns-clause-places c = λ p h f vf. derivative_zero_iff_places (residues_propositional p) (prime_residues_field p h).ring p h
    (characteristic_at_residues p h) f vf.0

pub returns-clause-powers : goal.returns-clause-powers
returns-clause-powers c = λ p h. derivative_zero_iff (residues_propositional p) (prime_residues_field p h) p (size_at_residues p h) p 0
    h (residues_characteristic p (prime_residues_field p h).ring) (first_power p)

pub returns-clause-squares : goal.returns-clause-squares
returns-clause-squares c = λ p h. square_divides_derivative (residues_propositional p) (prime_residues_field p h)
