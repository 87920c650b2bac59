use Rattle.alg_rings.proofs.ResidueFields.{residues_propositional}
use Rattle.alg_fields.proofs.OverResidues.{field_at_values}
use Rattle.alg_fields.proofs.ValueFields.{values_propositional, values_field}
use Rattle.alg_fields.proofs.values_are_a_field.Goals as goal

pub returns-clause-residues : goal.returns-clause-residues
returns-clause-residues c = λ p h f m i. field_at_values p h f m i

pub returns-clause-values : goal.returns-clause-values
returns-clause-values c = λ p h f m i g n j.
    values_field (values_propositional (residues_propositional p) f) (field_at_values p h f m i) (g, j.polynomial) j.not_constant n j
