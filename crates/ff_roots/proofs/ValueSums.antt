-- Sums and multiples of lists of elements, place by place: their values at a point.
use Rattle.std.proofs.Common.{◌≡◌, ℕ, ◌<◌, ◌≤◌, List, length, slice_index_or, All, ap, sym, ◌∙◌, ⊎_elim, arith}
use Rattle.std.proofs.lemmas.Bool.{cases_lt}
use Rattle.std.proofs.lemmas.List.{get_or_past}
use Rattle.alg_model.specs.Coefficients.{Carrier}
use Rattle.alg_model.specs.Polynomials.{sum, scale, evaluate}
use Rattle.alg_model.specs.Fields.{IsRing}
use Rattle.alg_rings.specs.Laws.{IsPropositional}
use Rattle.alg_rings.proofs.Validity.{sum_valid, scale_valid, place_valid}
use Rattle.alg_rings.proofs.CarrierPolynomials.{trim_same, sum_at, scale_at}
use Rattle.alg_splitting.proofs.PolynomialValues.{value_of_trim, value_of_sum, value_of_scale}
use Rattle.ff_polyx.proofs.ValuePlaces.{unchanged}

module _ {A : Type 0} {c : Carrier A} (P : IsPropositional c) (R : IsRing c) where
  open c.ops use {zero as O, add as ◌⊕◌, mul as ◌⊗◌}

  infixl 60 ◌⊕◌
  infixl 70 ◌⊗◌
  -- **multiples by t of the places of b, added to those of f**
  pub value_of_added : (t : A) (f b after : List A) → c.Valid t → All c.Valid f → All c.Valid b
      → All c.Valid after
      → ((k : ℕ) → slice_index_or after k O ≡ slice_index_or f k O ⊕ t ⊗ slice_index_or b k O)
      → (v : A) → c.Valid v
      → evaluate c.ops after v ≡ evaluate c.ops f v ⊕ t ⊗ evaluate c.ops b v
  value_of_added t f b after vt vf vb va places v vv =
      sym (value_of_trim P R v vv after va)
      ∙ ap (λ w. evaluate c.ops w v)
      (trim_same P R after (sum c.ops f (scale c.ops t b)) va (sum_valid R f (scale c.ops t b) vf vs)
      (λ k. places k ∙ ap (λ x. slice_index_or f k O ⊕ x) (sym (scale_at P R t b k vt vb))
      ∙ sym (sum_at P R f (scale c.ops t b) k vf vs)))
      ∙ value_of_sum P R v vv f (scale c.ops t b) vf vs
      ∙ ap (λ x. evaluate c.ops f v ⊕ x) (value_of_scale P R v vv t vt b vb)
    where
      vs : All c.Valid (scale c.ops t b)
      vs = scale_valid R t b vt vb

  -- places below n that have their multiple, and places from n on that have none to get
  pub added_so_far : (n : ℕ) (t : A) (f b after : List A) → c.Valid t → All c.Valid f
      → length b ≤ n
      → ((k : ℕ) → k < n → slice_index_or after k O ≡ slice_index_or f k O ⊕ t ⊗ slice_index_or b k O)
      → ((k : ℕ) → n ≤ k → slice_index_or after k O ≡ slice_index_or f k O)
      → (k : ℕ) → slice_index_or after k O ≡ slice_index_or f k O ⊕ t ⊗ slice_index_or b k O
  added_so_far n t f b after vt vf l below above k = ⊎_elim (λ h. below k h)
      (λ h. above k h ∙ sym (unchanged P R (slice_index_or f k O) t (place_valid R f k vf) vt)
      ∙ ap (λ w. slice_index_or f k O ⊕ t ⊗ w) (sym (get_or_past b k O (omega arith))))
      (cases_lt k n)
