use Rattle.alg_rings.proofs.ResidueFields.{prime_residues_field, residues_propositional}
use Rattle.alg_fields.proofs.OverResidues.{field_at_values}
use Rattle.alg_fields.proofs.OnCarriers.{root_bound, root_iff_divides}
use Rattle.alg_fields.proofs.ValueFields.{values_propositional}
use Rattle.alg_fields.proofs.roots_are_few.Goals as goal

pub returns-clause-residues : goal.returns-clause-residues
returns-clause-residues c = λ p h. root_bound (residues_propositional p) (prime_residues_field p h)

pub returns-clause-values : goal.returns-clause-values
returns-clause-values c = λ p h f m i. root_bound (values_propositional (residues_propositional p) f) (field_at_values p h f m i)

pub returns-clause-factor : goal.returns-clause-factor
returns-clause-factor c = λ p h. root_iff_divides (residues_propositional p) (prime_residues_field p h).ring
