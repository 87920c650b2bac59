use Rattle.std.proofs.Common.{arith}
use Rattle.alg_rings.proofs.ResidueFields.{prime_residues_field, residues_propositional}
use Rattle.alg_fields.proofs.OverResidues.{size_at_residues, first_power}
use Rattle.alg_fields.proofs.Certificates.{irreducible_from_certificate, certificate_of_irreducible}
use Rattle.alg_fields.proofs.FiniteFields.{residues_characteristic}
use Rattle.alg_fields.proofs.certificate_is_exact.Goals as goal

pub returns-clause-irreducible : goal.returns-clause-irreducible
returns-clause-irreducible c = λ p h f. irreducible_from_certificate (residues_propositional p) (prime_residues_field p h) p f
    (omega (arith, h.above_one))

pub returns-clause-certified : goal.returns-clause-certified
returns-clause-certified c = λ p h. certificate_of_irreducible (residues_propositional p) (prime_residues_field p h) p (size_at_residues p h) p 0
    h (residues_characteristic p (prime_residues_field p h).ring) (first_power p)
