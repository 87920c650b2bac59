use Rattle.alg_model.specs.Coefficients.{mod_ops}
use Rattle.alg_rings.proofs.ResidueFields.{prime_residues_field, residues_propositional}
use Rattle.alg_fields.proofs.ListRemainders.{length_remainder}
use Rattle.alg_fields.proofs.Remainders.{remainder_division, remainder_power, product_division}
use Rattle.alg_fields.proofs.remainders_of_divisions.Goals as goal

pub returns-clause-division : goal.returns-clause-division
returns-clause-division c = λ p h f g vf m l vg. remainder_division (residues_propositional p) (prime_residues_field p h) (f, vf) l m (g, vg)

pub returns-clause-places : goal.returns-clause-places
returns-clause-places c = λ p h f g l. length_remainder (mod_ops p) f l g

pub returns-clause-powers : goal.returns-clause-powers
returns-clause-powers c = λ p h f g vf m l vg. remainder_power (residues_propositional p) (prime_residues_field p h) (f, vf) l m (g, vg)

pub returns-clause-products : goal.returns-clause-products
returns-clause-products c = λ p h f a b vf m l va vb.
    product_division (residues_propositional p) (prime_residues_field p h) (f, vf) l m a b va.0 vb.0
