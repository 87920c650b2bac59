use Rattle.std.proofs.Common.{arith}
use Rattle.alg_rings.proofs.ResidueFields.{prime_residues_field, residues_propositional}
use Rattle.alg_fields.proofs.OverResidues.{size_at_residues}
use Rattle.alg_fields.proofs.Certificates.{fixed_splits, fixed_from_factors}
use Rattle.alg_fields.proofs.fixed_polynomials_split.Goals as goal

pub returns-clause-splits : goal.returns-clause-splits
returns-clause-splits c = λ p h. fixed_splits (residues_propositional p) (prime_residues_field p h) p (size_at_residues p h)

pub returns-clause-exists : goal.returns-clause-exists
returns-clause-exists c = λ p h f g k. fixed_from_factors (residues_propositional p) (prime_residues_field p h) p f g k
    (omega (arith, h.above_one))
