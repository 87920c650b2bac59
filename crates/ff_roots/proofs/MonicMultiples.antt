-- The monic multiple of a polynomial by a value: its greatest common divisor with zero.
use Rattle.std.proofs.Common.{◌≡◌, ◌≢◌, ◌↔◌, ◌≤◌, ℕ, List, [], length, refl, ap, sym, ◌∙◌, subst, arith}
use Rattle.alg_model.specs.Polynomials.{poly_product, trim}
use Rattle.alg_model.specs.Factors.{IsPolynomial, Divides, IsGreatestCommonDivisor}
use Rattle.alg_model.specs.Maps.{Field, IsFiniteField, field_values}
use Rattle.alg_model.specs.Roots.{IsRoot}
use Rattle.alg_rings.proofs.Lists.{product_nil}
use Rattle.alg_rings.proofs.Divisors.{divides_itself, divides_nil, length_divisor}
use Rattle.alg_splitting.proofs.ValueLaws.{values_set, values_ring, values_field}
use Rattle.alg_splitting.proofs.RootDivisors.{gcd_root}

module _ (F : Field) (W : IsFiniteField F) (g b m : List (List ℕ))
    (vg : IsPolynomial (field_values F) g) (vb : IsPolynomial (field_values F) b) (z : b ≡ [])
    (G : IsGreatestCommonDivisor (field_values F) g b m) where
  -- **it has as many coefficients**
  pub monic_length : g ≢ [] → length m ≡ length g
  monic_length n =
      let P = values_set F in
      let d = G.divides_first in
      let some : m ≢ [] = λ e. n (sym d.2 ∙ ap (poly_product (field_values F).ops d.0) e
      ∙ ap (trim (field_values F).ops) (product_nil (field_values F).ops d.0)) in
      let short : length m ≤ length g =
      length_divisor P (values_field F W) m g G.polynomial n d in
      let long : length g ≤ length m = length_divisor P (values_field F W) g m vg some
      (G.greatest g vg (divides_itself P (values_ring F W) g vg)
      (subst (Divides (field_values F) g) (sym z) (divides_nil P (values_ring F W) g))) in
      omega arith

  -- **and the same roots**
  pub monic_roots : (v : List ℕ) → IsRoot F m v ↔ IsRoot F g v
  monic_roots v =
      let both = gcd_root F W g b m vg vb G v in
      (λ r. (both.0 r).0, λ r. both.1 (r, subst (λ w. IsRoot F w v) (sym z) (r.0, refl)))
