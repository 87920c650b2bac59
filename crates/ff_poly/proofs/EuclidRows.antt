-- Euclid's algorithm on rows of constant width.
use Rattle.std.proofs.Common.{◌≡◌, ◌≢◌, ℕ, ◌+◌, ◌-◌, ◌%◌, ◌<◌, ◌≤◌, List, length, slice_index, take, All, refl, ap, sym, ◌∙◌, subst, ⊎_elim, arith, mod-eq_of_lt, get_or-take, length-take}
use Rattle.std.proofs.lemmas.Bool.{cases_lt}
use Rattle.std.proofs.lemmas.List.{ext_get_or}
use Rattle.alg_model.specs.Coefficients.{mod_ops, residues}
use Rattle.alg_model.specs.Polynomials.{trim, product}
use Rattle.alg_model.specs.Factors.{IsPolynomial, IsDivision}
use Rattle.alg_rings.proofs.Residues.{zero_test, residues_ring}
use Rattle.alg_rings.proofs.ResidueFields.{residues_propositional}
use Rattle.alg_rings.proofs.Trims.{trim_at, trim_is, last_not_zero}
use Rattle.alg_rings.proofs.CarrierPolynomials.{trim_polynomial}
use Rattle.ff_residues.proofs.ResidueLists.{below_at}
use Rattle.ff_poly.specs.PrivateDivisors.{IsRowOf}
use Rattle.ff_poly.proofs.ListPlaces.{take_past}
use Rattle.ff_poly.proofs.Quotients.{division_of_places}

module _ (w p n : ℕ) (row : List ℕ) (h : IsRowOf w p row n) where
  pub row_length : length (take n row) ≡ n
  row_length = omega (arith, length-take n row, h.count, h.fits)

  pub row_at : (k : ℕ) → slice_index (take n row) k ≡ slice_index row k
  row_at k = ap (λ xs. slice_index xs k) h.trimmed ∙ trim_at (mod_ops p) (zero_test p) row k

  pub row_past : (k : ℕ) → n ≤ k → slice_index row k ≡ 0
  row_past k l = sym (row_at k) ∙ take_past n k row l

  pub row_polynomial : 1 < p → IsPolynomial (residues p) (take n row)
  row_polynomial above = subst (IsPolynomial (residues p)) (sym h.trimmed) (trim_polynomial (residues_propositional p) (residues_ring p above) row h.residues)

  pub row_leading : 1 < p → 0 < n → slice_index (take n row) (length (take n row) - 1) ≢ 0
  row_leading above some = last_not_zero (mod_ops p) (zero_test p) (take n row) (row_polynomial above).1 (omega (arith, row_length))

-- a polynomial with zeros after it
pub row_of_polynomial : (w p : ℕ) (f row : List ℕ) → length row ≡ w → length f ≤ w → IsPolynomial (residues p) f → All (λ x. x < p) row
    → ((k : ℕ) → slice_index row k ≡ slice_index f k) → (take (length f) row ≡ f) × IsRowOf w p row (length f)
row_of_polynomial w p f row count fits vf vr same = (
  taken,
  record {
    count = count;
    residues = vr;
    fits = fits;
    trimmed = taken ∙ sym (trim_is (mod_ops p) (zero_test p) row f vf.1 same);
  },
)
  where
    taken : take (length f) row ≡ f
    taken = ext_get_or 0 (take (length f) row) f (omega (arith, length-take (length f) row))
        (λ k l. get_or-take (length f) row k 0 (omega (arith, length-take (length f) row)) ∙ same k)

-- what is left of the first, and what was taken off, make a division
pub remainder_of_rows : (w p m n : ℕ) (first second quotient rest : List ℕ) → 1 < p → 0 < n → IsRowOf w p first m → IsRowOf w p second n
    → All (λ x. x < p) quotient → All (λ x. x < p) rest
    → ((k : ℕ) → length (take n second) ≤ k + 1 → slice_index rest k ≡ 0)
    → ((k : ℕ) → (slice_index (product (mod_ops p) quotient (take n second)) k + slice_index rest k) % p ≡ slice_index first k % p)
    → IsDivision (residues p) (take m first) (take n second) (trim (mod_ops p) quotient) (trim (mod_ops p) rest)
remainder_of_rows w p m n first second quotient rest above some hf hs vq vr smaller division =
    division_of_places p (take m first) (take n second) quotient rest (trim (mod_ops p) quotient) (trim (mod_ops p) rest)
    above (row_polynomial w p m first hf above) (omega (arith, row_length w p n second hs)) refl
    (trim_polynomial (residues_propositional p) (residues_ring p above) quotient vq)
    (trim_polynomial (residues_propositional p) (residues_ring p above) rest vr)
    (λ k. trim_at (mod_ops p) (zero_test p) rest k ∙ sym (mod-eq_of_lt (below_at p rest k (omega arith) vr)) ∙ ap (λ x. x % p) (cut k))
    smaller
    (λ k. division k ∙ ap (λ x. x % p) (sym (row_at w p m first hf k)))
  where
    cut : (k : ℕ) → slice_index rest k ≡ slice_index (take (length (take n second) - 1) rest) k
    cut k = ⊎_elim
        (λ l. sym (get_or-take (length (take n second) - 1) rest k 0 l))
        (λ l. smaller k (omega arith) ∙ sym (take_past (length (take n second) - 1) k rest l))
        (cases_lt k (length (take n second) - 1))
