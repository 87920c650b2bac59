-- Lists of zeros.
use Rattle.std.proofs.Common.{ℕ, List, replicate, All, ap, sym, ◌∙◌}
use Rattle.std.proofs.lemmas.List.Elements.{All-replicate}
use Rattle.alg_model.specs.Polynomials.{evaluate}
use Rattle.alg_model.specs.Maps.{Field, IsFiniteField, field_values}
use Rattle.alg_splitting.specs.PrivateSearch.{IsConjugateSumAtRoots}
use Rattle.alg_splitting.proofs.ValueLaws.{values_set, values_ring}
use Rattle.alg_splitting.proofs.PolynomialValues.{value_of_trim}
use Rattle.alg_splitting.proofs.RootTraces.{sum_start}
use Rattle.ff_polyx.proofs.ValuePlaces.{trim_blank, blank_at}

module _ (F : Field) (W : IsFiniteField F) (n : ℕ) where
  open field_values F use {ops as o, Valid}

  blank : List (List ℕ)
  blank = replicate n o.zero

  -- zeros are values
  pub blank_valid : All (field_values F).Valid (replicate n (field_values F).ops.zero)
  blank_valid = All-replicate (field_values F).Valid n o.zero (values_ring F W).zero_valid

  -- **they are the sum of no conjugates**
  pub blank_sum : (g : List (List ℕ)) (c : List ℕ) → (field_values F).Valid c
      → IsConjugateSumAtRoots F g c 0 (replicate n (field_values F).ops.zero)
  blank_sum g c vc v r =
      sym (value_of_trim (values_set F) (values_ring F W) v r.0 (replicate n o.zero) blank_valid)
      ∙ ap (λ w. evaluate o w v) (trim_blank (values_set F) (values_ring F W) (replicate n o.zero)
      blank_valid (blank_at o.zero n))
      ∙ sum_start F W g c vc v r
