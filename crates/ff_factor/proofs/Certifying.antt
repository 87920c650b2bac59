-- The columns of v -> v^p - v and the polynomials that are fixed: independent columns leave constants alone, and what the
-- columns send to zero gives fixed polynomials.
use Rattle.std.proofs.Common.{◌≡◌, ◌≢◌, ⊎_elim, ℕ, zero, suc, ◌+◌, ◌-◌, ◌*◌, ◌<◌, ◌≤◌, List, [], ◌∷◌, ◌++◌, map, length, replicate, slice_index_or, All, ap, sym, ◌∙◌, arith, subst}
use Rattle.std.specs.List.{range_with_len}
use Rattle.std.proofs.lemmas.Bool.{cases_lt}
use Rattle.std.proofs.lemmas.List.{length-replicate, length-append, get_or_past}
use Rattle.std.proofs.lemmas.List.FromFn.{length-map-range_with_len}
use Rattle.std.proofs.lemmas.List.Elements.{All-cons, All-head, All-tail, All-append, All-replicate, All-map}
use Rattle.alg_model.specs.Coefficients.{Carrier, times, power}
use Rattle.alg_model.specs.Polynomials.{trim, poly_power, poly_difference}
use Rattle.alg_model.specs.Factors.{IsPolynomial, IsMonic}
use Rattle.alg_model.specs.Fields.{IsField}
use Rattle.alg_model.specs.Values.{degree, padded}
use Rattle.alg_model.specs.Matrices.{combination, zero_column, IsColumn, IsMatrix, IsIndependent}
use Rattle.alg_rings.specs.Laws.{IsPropositional}
use Rattle.alg_rings.proofs.Elements.{Element, element_ops}
use Rattle.alg_rings.proofs.Trims
use Rattle.alg_rings.proofs.CarrierPolynomials
use Rattle.alg_rings.proofs.Divisors.{Polynomial}
use Rattle.alg_linear.proofs.Columns.{same_columns, length_zero_column, zero_column_at}
use Rattle.alg_fields.specs.Fixed.{IsFixed}
use Rattle.alg_model.specs.Coefficients.{IsPrime}
use Rattle.alg_fields.proofs.ListRemainders.{zeros_at}
use Rattle.alg_fields.proofs.Classes
use Rattle.alg_fields.proofs.Remainders.{remainder_value}
use Rattle.ff_factor.specs.Certificates.{berlekamp_column, berlekamp_matrix}
use Rattle.ff_factor.proofs.BerlekampColumns.{variable, variable_polynomial}
use Rattle.ff_factor.proofs.Criterion.{fixed_from_combination, combination_from_fixed}

module _ {A : Type 0} {c : Carrier A} (P : IsPropositional c) (F : IsField c) (p : ℕ) (prime : IsPrime p)
    (characteristic : times (element_ops F.ring) p (element_ops F.ring).one ≡ (element_ops F.ring).zero)
    (fixed : (a : Element c) → power (element_ops F.ring) a p ≡ a)
    (f : Polynomial c) (not_constant : 1 < length f.0) (monic : IsMonic c f.0) where
  abbrev columns : List (List A)
  columns = map (berlekamp_column c.ops p f.0) (range_with_len 1 (degree f.0 - 1))

  pub column_valid : (k : ℕ) → IsColumn c (degree f.0) (berlekamp_column c.ops p f.0 k)
  column_valid k =
      let x = variable c.ops in
      let vx = variable_polynomial P F in
      let g : Polynomial c = (
        poly_difference c.ops (poly_power c.ops x (k * p)) (poly_power c.ops x k),
        CarrierPolynomials.poly_difference_polynomial P F.ring (poly_power c.ops x (k * p)) (poly_power c.ops x k)
            (CarrierPolynomials.poly_power_polynomial P F.ring x (k * p) vx) (CarrierPolynomials.poly_power_polynomial P F.ring x k vx),
      ) in
      let v = remainder_value P F f not_constant monic g in (v.1, v.0)

  pub matrix_valid : IsMatrix c (berlekamp_matrix c.ops p f.0)
  matrix_valid = All-map (IsColumn c (degree f.0)) (berlekamp_column c.ops p f.0) (range_with_len 1 (degree f.0 - 1)) (λ k d l. column_valid _)

  length_columns : length columns ≡ degree f.0 - 1
  length_columns = length-map-range_with_len (berlekamp_column c.ops p f.0) 1 (degree f.0 - 1)

  -- at most the constant coefficient is left of a list with zeros after it
  length_constant : (a : A) (k : ℕ) → c.Valid a → length (trim c.ops (a ∷ zero_column c.ops k)) ≤ 1
  length_constant a k v =
      CarrierPolynomials.length_trim_below P F.ring (a ∷ zero_column c.ops k) 1
      (All-cons c.Valid a (zero_column c.ops k) v (All-replicate c.Valid k c.ops.zero F.ring.zero_valid)) after
    where
      after : (i : ℕ) → 1 ≤ i → slice_index_or (a ∷ zero_column c.ops k) i c.ops.zero ≡ c.ops.zero
      after zero l = absurd (omega arith)
      after (suc i) l = zeros_at c.ops.zero k i

  -- zeros at the end are dropped
  trim_padded_tail : (a : A) (ws : List A) (k : ℕ) → IsPolynomial c (a ∷ ws) → trim c.ops (a ∷ ws ++ replicate k c.ops.zero) ≡ a ∷ ws
  trim_padded_tail a ws k vv =
      let n = length (a ∷ ws) + k in
      let e : n - length (a ∷ ws) ≡ k = omega arith in
      let v : All c.Valid (padded c.ops n (a ∷ ws)) =
      All-append c.Valid (a ∷ ws) (replicate (n - length (a ∷ ws)) c.ops.zero) vv.0 (All-replicate c.Valid (n - length (a ∷ ws)) c.ops.zero F.ring.zero_valid) in
      subst (λ j. trim c.ops (a ∷ ws ++ replicate j c.ops.zero) ≡ a ∷ ws) e
      (ap (λ g. g.0) (Classes.class_of_padded P F.ring n (a ∷ ws) vv.0 v) ∙ vv.1)

  only_constants_at : IsIndependent c (degree f.0) columns → (v : List A) → IsPolynomial c v → length v < length f.0 → IsFixed c p f.0 v → length v ≤ 1
  only_constants_at independent [] vv l h = omega arith
  only_constants_at independent (a ∷ ws) vv l h =
      let m = degree f.0 - 1 in
      let xs = padded c.ops m ws in
      let long : length xs ≡ m = omega (arith, length-append ws (replicate (m - length ws) c.ops.zero), length-replicate (m - length ws) c.ops.zero) in
      let vws = All-tail c.Valid a ws vv.0 in
      let vxs : All c.Valid xs = All-append c.Valid ws (replicate (m - length ws) c.ops.zero) vws (All-replicate c.Valid (m - length ws) c.ops.zero F.ring.zero_valid) in
      let whole : trim c.ops (a ∷ xs) ≡ a ∷ ws = trim_padded_tail a ws (m - length ws) vv in
      let sent : combination c.ops (degree f.0) (map (berlekamp_column c.ops p f.0) (range_with_len 1 (length xs))) xs ≡ zero_column c.ops (degree f.0) =
      combination_from_fixed P F p prime characteristic fixed f not_constant monic a xs (All-cons c.Valid a xs (All-head c.Valid a ws vv.0) vxs)
      (subst (IsFixed c p f.0) (sym whole) h) in
      let none : xs ≡ zero_column c.ops m =
      subst (λ k. xs ≡ zero_column c.ops k) length_columns
      (independent xs (long ∙ sym length_columns, vxs)
      (subst (λ k. combination c.ops (degree f.0) (map (berlekamp_column c.ops p f.0) (range_with_len 1 k)) xs ≡ zero_column c.ops (degree f.0)) long sent)) in
      subst (λ w. length w ≤ 1) (ap (λ t. trim c.ops (a ∷ t)) (sym none) ∙ whole) (length_constant a m (All-head c.Valid a ws vv.0))

  -- **independent columns**: what is fixed modulo f and shorter than f is constant
  pub only_constants : IsIndependent c (degree f.0) columns → (v : List A) → IsPolynomial c v → length v < length f.0 → IsFixed c p f.0 v → length v ≤ 1
  only_constants = only_constants_at

  -- **what the columns send to zero** is the rest of the coefficients of a fixed polynomial
  module _ (x : List A) (v : IsColumn c (degree f.0 - 1) x) where
    abbrev pub without_constant : List A
    without_constant = trim c.ops (c.ops.zero ∷ x)

    vx : All c.Valid (c.ops.zero ∷ x)
    vx = All-cons c.Valid c.ops.zero x F.ring.zero_valid v.1

    pub kernel_fixed : combination c.ops (degree f.0) columns x ≡ zero_column c.ops (degree f.0) → IsFixed c p f.0 (trim c.ops (c.ops.zero ∷ x))
    kernel_fixed e =
        fixed_from_combination P F p prime characteristic fixed f not_constant monic c.ops.zero x vx
        (ap (λ k. combination c.ops (degree f.0) (map (berlekamp_column c.ops p f.0) (range_with_len 1 k)) x) v.0 ∙ e)

    pub kernel_polynomial : IsPolynomial c (trim c.ops (c.ops.zero ∷ x))
    kernel_polynomial = CarrierPolynomials.trim_polynomial P F.ring (c.ops.zero ∷ x) vx

    pub kernel_shorter : length (trim c.ops (c.ops.zero ∷ x)) < length f.0
    kernel_shorter = omega (arith, Trims.length_trim c.ops (c.ops.zero ∷ x), v.0)

    pub kernel_not_constant : x ≢ zero_column c.ops (degree f.0 - 1) → 1 < length (trim c.ops (c.ops.zero ∷ x))
    kernel_not_constant n = ⊎_elim (λ l. l) (λ l. absurd (n (same_columns c.ops (degree f.0 - 1) x (zero_column c.ops (degree f.0 - 1)) v.0
        (length_zero_column c.ops (degree f.0 - 1))
        (λ k lk. sym (CarrierPolynomials.trim_at P F.ring (c.ops.zero ∷ x) (suc k) vx)
        ∙ get_or_past (trim c.ops (c.ops.zero ∷ x)) (suc k) c.ops.zero (omega arith)
        ∙ sym (zero_column_at c.ops (degree f.0 - 1) k lk)))))
        (cases_lt 1 (length (trim c.ops (c.ops.zero ∷ x))))
