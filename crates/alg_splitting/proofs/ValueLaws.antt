-- The values of a finite field of the model as a field.
use Rattle.alg_model.specs.Fields.{IsField, IsRing}
use Rattle.alg_model.specs.Maps.{Field, IsFiniteField, field_values}
use Rattle.alg_rings.specs.Laws.{IsPropositional}
use Rattle.alg_rings.proofs.ResidueFields.{residues_propositional}
use Rattle.alg_fields.proofs.ValueFields.{values_propositional}
use Rattle.alg_galois.proofs.Fields.{modulus_of, field_is}

-- values are equal and valid in one way
abbrev pub values_set : (F : Field) → IsPropositional (field_values F)
values_set F = values_propositional (residues_propositional F.characteristic) F.polynomial

-- they are a field
abbrev pub values_field : (F : Field) → IsFiniteField F → IsField (field_values F)
values_field F W = field_is F.characteristic W.characteristic F.polynomial (modulus_of F W)

-- and a ring
abbrev pub values_ring : (F : Field) → IsFiniteField F → IsRing (field_values F)
values_ring F W = (values_field F W).ring
