-- The values of a small field as a carrier: a field whose elements a test tells.
use Rattle.alg_model.specs.Fields.{IsRing, IsField}
use Rattle.alg_model.specs.Maps.{Field, field_values}
use Rattle.alg_rings.specs.Laws.{IsPropositional}
use Rattle.alg_rings.proofs.ResidueFields.{residues_propositional}
use Rattle.alg_fields.proofs.OverResidues.{field_at_values}
use Rattle.alg_fields.proofs.ValueFields.{values_propositional}
use Rattle.ff_field.specs.SmallFields.{IsSmallField}

-- two values are equal in one way, and are values in one way
pub propositional : (K : Field) → IsPropositional (field_values K)
propositional K = values_propositional (residues_propositional K.characteristic) K.polynomial

-- the values are a field
pub field : (K : Field) → IsSmallField K → IsField (field_values K)
field K W = field_at_values K.characteristic W.finite.characteristic K.polynomial W.finite.monic
    W.finite.irreducible

-- and a ring
pub ring : (K : Field) → IsSmallField K → IsRing (field_values K)
ring K W = (field K W).ring
