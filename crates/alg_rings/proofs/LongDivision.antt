-- Long division over a carrier, as a program does it: lists with zeros kept, changed at single places.
use Rattle.std.proofs.Common.{◌≡◌, ◌≢◌, ℕ, ◌+◌, ◌-◌, ◌<◌, ◌≤◌, List, map, length, slice_index_or, ap, ap₂, sym, ◌∙◌, arith, All}
use Rattle.alg_model.specs.Coefficients.{Carrier}
use Rattle.alg_model.specs.Polynomials.{sum, product, trim, poly_product}
use Rattle.alg_model.specs.Factors.{IsPolynomial, IsDivision}
use Rattle.alg_model.specs.Fields.{IsRing}
use Rattle.alg_rings.specs.Laws.{IsPropositional}
use Rattle.alg_rings.proofs.Monomials
use Rattle.alg_rings.proofs.Homomorphisms
use Rattle.alg_rings.proofs.Elements.{Element, underlying, element_ops, underlying_homomorphism, underlying_injective, on_valid₂, on_valid₃, element_laws}
use Rattle.alg_rings.proofs.CarrierPolynomials.{same_place, trim_polynomial, trim_sum_first, trim_sum_second, trim_product_first, length_trim_below}
use Rattle.alg_rings.proofs.Validity.{product_valid, trim_valid}

module _ {A : Type 0} {c : Carrier A} (P : IsPropositional c) (R : IsRing c) where
  open c.ops use {zero as O, add as ◌⊕◌, mul as ◌⊗◌, neg}

  infixl 60 ◌⊕◌
  infixl 70 ◌⊗◌
  -- the places of r' from those of r, less t * x ^ i * d, and those of q' from those of q, with t more at i
  abbrev pub IsStep : (q q' d r r' : List A) (t : A) (i : ℕ) → Type 0
  IsStep q q' d r r' t i =
      ((k : ℕ) → k ≢ i → slice_index_or q' k O ≡ slice_index_or q k O)
      × (slice_index_or q' i O ≡ slice_index_or q i O ⊕ t)
      × ((k : ℕ) → k < i → slice_index_or r' k O ≡ slice_index_or r k O)
      × ((k : ℕ) → slice_index_or r' (i + k) O ≡ slice_index_or r (i + k) O ⊕ neg (t ⊗ slice_index_or d k O))

  step_of_elements : (Q Q' D S S' : List (Element c)) (t : Element c) (i : ℕ)
      → IsStep (map (underlying c) Q) (map (underlying c) Q') (map (underlying c) D) (map (underlying c) S) (map (underlying c) S') t.0 i
      → trim c.ops (sum c.ops (product c.ops (map (underlying c) Q') (map (underlying c) D)) (map (underlying c) S'))
      ≡ trim c.ops (sum c.ops (product c.ops (map (underlying c) Q) (map (underlying c) D)) (map (underlying c) S))
  step_of_elements Q Q' D S S' t i s = let H = underlying_homomorphism R in
      sym (poly_value Q' S') ∙ ap (map (underlying c)) (Monomials.division_step (element_laws P R) Q Q' D S S' t i
      (λ k h. same_place P R Q' Q k (s.0 k h))
      (underlying_injective P _ _ (Homomorphisms.place-map H Q' i ∙ s.1 ∙ ap (λ w. w ⊕ t.0) (sym (Homomorphisms.place-map H Q i))))
      (λ k h. same_place P R S' S k (s.2 k h))
      (λ k. underlying_injective P _ _ (Homomorphisms.place-map H S' (i + k) ∙ s.3 k
      ∙ ap₂ (λ v w. v ⊕ neg (t.0 ⊗ w)) (sym (Homomorphisms.place-map H S (i + k))) (sym (Homomorphisms.place-map H D k)))))
      ∙ poly_value Q S
    where
      poly_value : (X Y : List (Element c)) → map (underlying c) (trim (element_ops R) (sum (element_ops R) (product (element_ops R) X D) Y))
          ≡ trim c.ops (sum c.ops (product c.ops (map (underlying c) X) (map (underlying c) D)) (map (underlying c) Y))
      poly_value X Y = let H = underlying_homomorphism R in
          Homomorphisms.trim-map H (sum (element_ops R) (product (element_ops R) X D) Y)
          ∙ ap (trim c.ops) (Homomorphisms.sum-map H (product (element_ops R) X D) Y
          ∙ ap (λ w. sum c.ops w (map (underlying c) Y)) (Homomorphisms.product-map H X D))

  pub division_step : (q q' d r r' : List A) (t : A) (i : ℕ)
      → All c.Valid q → All c.Valid q' → All c.Valid d → All c.Valid r → All c.Valid r' → c.Valid t → IsStep q q' d r r' t i
      → trim c.ops (sum c.ops (product c.ops q' d) r') ≡ trim c.ops (sum c.ops (product c.ops q d) r)
  division_step q q' d r r' t i vq vq' vd vr vr' vt =
      on_valid₂ c (λ q q'. IsStep q q' d r r' t i
      → trim c.ops (sum c.ops (product c.ops q' d) r') ≡ trim c.ops (sum c.ops (product c.ops q d) r))
      (λ Q Q'. on_valid₃ c (λ d r r'. IsStep (map (underlying c) Q) (map (underlying c) Q') d r r' t i
      → trim c.ops (sum c.ops (product c.ops (map (underlying c) Q') d) r')
      ≡ trim c.ops (sum c.ops (product c.ops (map (underlying c) Q) d) r))
      (λ D S S'. step_of_elements Q Q' D S S' (t, vt) i) d r r' vd vr vr')
      q q' vq vq'

  -- what long division leaves is a division with remainder: q and r may end in zeros
  pub division_from_places : (f d q r : List A) → All c.Valid q → All c.Valid r → IsPolynomial c d → 0 < length d
      → trim c.ops (sum c.ops (product c.ops q d) r) ≡ f → ((k : ℕ) → length d ≤ k + 1 → slice_index_or r k O ≡ O)
      → IsDivision c f d (trim c.ops q) (trim c.ops r)
  division_from_places f d q r vq vr vd l e ends = record {
    quotient = trim_polynomial P R q vq;
    remainder = trim_polynomial P R r vr;
    identity =
        trim_sum_second P R (poly_product c.ops (trim c.ops q) d) r (trim_valid R (product c.ops (trim c.ops q) d) vqd') vr
        ∙ ap (λ w. trim c.ops (sum c.ops w r)) (trim_product_first P R q d vq vd.0)
        ∙ trim_sum_first P R (product c.ops q d) r (product_valid R q d vq vd.0) vr ∙ e;
    smaller = omega (arith, length_trim_below P R r (length d - 1) vr (λ k h. ends k (omega arith)));
  }
    where
      vqd' : All c.Valid (product c.ops (trim c.ops q) d)
      vqd' = product_valid R (trim c.ops q) d (trim_valid R q vq) vd.0
