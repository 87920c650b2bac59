use Rattle.std.proofs.Common.{sym, ap, ◌∙◌}
use Rattle.alg_rings.proofs.Elements.{underlying_homomorphism}
use Rattle.alg_rings.proofs.Homomorphisms.{power-map}
use Rattle.alg_rings.proofs.ResidueFields.{prime_residues_field, residues_propositional}
use Rattle.alg_fields.proofs.OverResidues.{ring_at_values, characteristic_at_values}
use Rattle.alg_fields.proofs.FiniteFields.{fermat}
use Rattle.alg_fields.proofs.OnCarriers.{power_of_sum, power_of_product}
use Rattle.alg_fields.proofs.ValueFields.{values_propositional}
use Rattle.alg_fields.proofs.frobenius_keeps_sums_and_products.Goals as goal

pub returns-clause-sums : goal.returns-clause-sums
returns-clause-sums c = λ p h f vf m l. power_of_sum (values_propositional (residues_propositional p) f) (ring_at_values p h f vf m l) p
    h (characteristic_at_values p h f vf m l)

pub returns-clause-products : goal.returns-clause-products
returns-clause-products c = λ p h f vf m l a b va vb.
    power_of_product (values_propositional (residues_propositional p) f) (ring_at_values p h f vf m l) a b va vb p

pub returns-clause-residues : goal.returns-clause-residues
returns-clause-residues c = λ p h a l. sym (power-map (underlying_homomorphism (prime_residues_field p h).ring) (a, l) p)
    ∙ ap (λ x. x.0) (fermat p (prime_residues_field p h).ring h (a, l))
