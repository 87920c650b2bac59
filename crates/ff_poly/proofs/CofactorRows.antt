-- The extended algorithm of Euclid on rows of constant width.
use Rattle.std.proofs.Common.{◌≡◌, ◌≢◌, ℕ, ◌+◌, ◌-◌, ◌*◌, ◌%◌, ◌<◌, ◌≤◌, max, List, [], ◌∷◌, length, slice_index, take, All, refl, ap, ap₂, sym, ◌∙◌, subst, ⊎_elim, arith, mod-eq_of_lt, get_or-take}
use Rattle.std.proofs.lemmas.Bool.{cases_lt}
use native.Mathlib.Nat.{add-mod-mod}
use Rattle.alg_model.specs.Coefficients.{mod_ops, residues, IsCharacteristic}
use Rattle.alg_model.specs.Polynomials.{sum, trim, product, poly_sum, poly_difference, poly_product, convolution}
use Rattle.alg_model.specs.Factors.{IsPolynomial, IsDivision, IsGreatestCommonDivisor}
use Rattle.alg_model.specs.Fields.{IsRing}
use Rattle.alg_rings.specs.Laws.{IsPropositional}
use Rattle.alg_rings.proofs.Lists.{convolution_to_same, not_nil_from_length}
use Rattle.std.proofs.lemmas.List.{nil_from_length}
use Rattle.alg_rings.proofs.Trims.{trim_at, trim_is}
use Rattle.alg_rings.proofs.Residues.{nat_ops, zero_test, product_mod, poly_product_mod, residues_ring}
use Rattle.alg_rings.proofs.ResidueFields.{residues_propositional}
use Rattle.alg_rings.proofs.CarrierPolynomials.{trim_polynomial, poly_product_polynomial, sum_at}
use Rattle.ff_residues.specs.SumRows.{SumRow, residue_at}
use Rattle.ff_residues.proofs.ResidueLists.{below_at}
use Rattle.ff_poly.specs.Cofactors.{IsCofactor}
use Rattle.ff_poly.specs.PrivateDivisors.{IsRowOf, IsNormalizer}
use Rattle.ff_poly.specs.PrivateSums.{IsPadded}
use Rattle.ff_poly.specs.declared.divisors.Bezout.{Bezout}
use Rattle.ff_poly.proofs.ListPlaces.{place_cases, take_past}
use Rattle.ff_poly.proofs.Quotients.{other_factor, negative_multiple}
use Rattle.ff_poly.proofs.Convolutions.{convolution_below, convolution_from}
use Rattle.ff_poly.proofs.Euclid.{difference_is, gcd_step, short_room}
use Rattle.ff_poly.proofs.EuclidRows.{row_length}
use Rattle.ff_poly.proofs.ExtendedEuclid.{Line, AreShort, HasPrime, first_line, second_line, start_short, next_line, next_short, IsMonicMultiple, monic_gcd, monic_identity, monic_first, monic_second, monic_g, monic_second_polynomial}

-- ---- a product taken off a row
-- t * y less here, and t * y more there
taken_row : (p t c r y : ℕ) → t ≤ p → (c + t * y + (r + (p - t) % p * y) % p) % p ≡ (c + r) % p
taken_row p t c r y l =
    let regroup : c + t * y + (r + (p - t) * y) ≡ c + (t * y + (r + (p - t) * y)) = omega arith in
    ap (λ w. (c + t * y + w) % p) (negative_multiple p (p - t) r y)
    ∙ add-mod-mod (c + t * y) (r + (p - t) * y) p
    ∙ ap (λ w. w % p) regroup
    ∙ sym (add-mod-mod c (t * y + (r + (p - t) * y)) p)
    ∙ ap (λ w. (c + w) % p) (other_factor p t r y l)
    ∙ add-mod-mod c r p

-- a factor may be cut where only zeros follow
pub same_product : (p n : ℕ) (q v : List ℕ) → ((k : ℕ) → n ≤ k → slice_index q k ≡ 0)
    → (k : ℕ) → slice_index (product (mod_ops p) q v) k ≡ slice_index (product (mod_ops p) (take n q) v) k
same_product p n q v past k = product_mod p q v k
    ∙ ap (λ w. w % p) (convolution_to_same nat_ops k q (take n q) v v k
    (λ i. ⊎_elim (λ l. sym (get_or-take n q i 0 l)) (λ l. past i l ∙ sym (take_past n i q l)) (cases_lt i n)) (λ i. refl))
    ∙ sym (product_mod p (take n q) v k)

-- one coefficient of the first factor more
pub product_off : (w p i : ℕ) (f g padded row : List ℕ) (old new : SumRow) → IsPadded w g padded
    → slice_index f i ≤ p
    → ((k : ℕ) → k < i → residue_at new k ≡ residue_at old k)
    → ((k : ℕ) → i + k < w → residue_at new (i + k) ≡ (residue_at old (i + k) + (p - slice_index f i) % p * slice_index padded (w + k)) % p)
    → ((k : ℕ) → k < w → (convolution nat_ops (take i f) g k + residue_at old k) % p ≡ slice_index row k % p)
    → (k : ℕ) → k < w → (convolution nat_ops (take (i + 1) f) g k + residue_at new k) % p ≡ slice_index row k % p
product_off w p i f g padded row old new P small below above rows k = place_cases
    (λ m. m < w → (convolution nat_ops (take (i + 1) f) g m + residue_at new m) % p ≡ slice_index row m % p) i k
    (λ l lw. ap₂ (λ x y. (x + y) % p) (convolution_below i f g k l) (below k l) ∙ rows k lw)
    (λ j lw. ap₂ (λ x y. (x + y) % p) (convolution_from i f g j)
    (above j lw ∙ ap (λ y. (residue_at old (i + j) + (p - slice_index f i) % p * y) % p) (P.places j))
    ∙ taken_row p (slice_index f i) (convolution nat_ops (take i f) g (i + j)) (residue_at old (i + j)) (slice_index g j) small
    ∙ rows (i + j) lw)

module _ (p : ℕ) (factors row c next : List ℕ) (above : 1 < p)
    (vf : All (λ x. x < p) factors) (vr : All (λ x. x < p) row) (vc : All (λ x. x < p) c) (vn : All (λ x. x < p) next)
    (places : (k : ℕ) → (slice_index (product (mod_ops p) factors c) k + slice_index next k) % p ≡ slice_index row k % p)
  where
    abbrev trimmed : List ℕ → List ℕ
    trimmed = trim (mod_ops p)

    abbrev P : IsPropositional (residues p)
    P = residues_propositional p

    abbrev R : IsRing (residues p)
    R = residues_ring p above

    polynomial : (xs : List ℕ) → All (λ x. x < p) xs → IsPolynomial (residues p) (trim (mod_ops p) xs)
    polynomial xs v = trim_polynomial P R xs v

    product_polynomial : IsPolynomial (residues p) (poly_product (mod_ops p) (trimmed factors) (trimmed c))
    product_polynomial = poly_product_polynomial P R (trimmed factors) (trimmed c) (polynomial factors vf) (polynomial c vc)

    product_is : (k : ℕ) → slice_index (poly_product (mod_ops p) (trimmed factors) (trimmed c)) k ≡ slice_index (product (mod_ops p) factors c) k
    product_is k = poly_product_mod p (trimmed factors) (trimmed c) k
        ∙ ap (λ w. w % p) (convolution_to_same nat_ops k (trimmed factors) factors (trimmed c) c k
        (trim_at (mod_ops p) (zero_test p) factors) (trim_at (mod_ops p) (zero_test p) c))
        ∙ sym (product_mod p factors c k)

    same : (k : ℕ) → slice_index (sum (mod_ops p) (poly_product (mod_ops p) (trimmed factors) (trimmed c)) (trimmed next)) k ≡ slice_index (trimmed row) k
    same k = sum_at P R (poly_product (mod_ops p) (trimmed factors) (trimmed c)) (trimmed next) k product_polynomial.0 (polynomial next vn).0
        ∙ ap₂ (λ x y. (x + y) % p) (product_is k) (trim_at (mod_ops p) (zero_test p) next k)
        ∙ places k
        ∙ mod-eq_of_lt (below_at p row k (omega arith) vr)
        ∙ sym (trim_at (mod_ops p) (zero_test p) row k)

    -- **what is left of a row is the difference of the polynomials**
    pub difference_of_rows : trim (mod_ops p) next
        ≡ poly_difference (mod_ops p) (trim (mod_ops p) row) (poly_product (mod_ops p) (trim (mod_ops p) factors) (trim (mod_ops p) c))
    difference_of_rows =
        difference_is P R (trimmed row) (poly_product (mod_ops p) (trimmed factors) (trimmed c)) (trimmed next)
        (polynomial row vr) product_polynomial (polynomial next vn)
        (trim_is (mod_ops p) (zero_test p) (sum (mod_ops p) (poly_product (mod_ops p) (trimmed factors) (trimmed c)) (trimmed next))
        (trimmed row) (polynomial row vr).1 same)

-- ---- two remainders in turn, in rows, with what they are made of: u and s, v and t
abbrev pub line_of : ℕ → List ℕ → List ℕ → List ℕ → Bezout
line_of p g u w = record {
  g = record { prime = p; coefficients = g };
  u = record { prime = p; coefficients = u };
  w = record { prime = p; coefficients = w };
}

pub record Remainders (w p : ℕ) (a b first second : List ℕ) (m n : ℕ) (u v s t : List ℕ) : Type 0 where
  pub first_row : IsRowOf w p first m
  pub second_row : IsRowOf w p second n
  pub line : Line p a b (line_of p (take m first) u s)
  pub next : Line p a b (line_of p (take n second) v t)
  pub short : AreShort a b (line_of p (take m first) u s) (line_of p (take n second) v t)
  pub some : 0 < m + n
  pub gcd : (d : List ℕ) → IsGreatestCommonDivisor (residues p) (take m first) (take n second) d → IsGreatestCommonDivisor (residues p) a b d

module _ (w p : ℕ) (a b : List ℕ) (prime : IsCharacteristic p) (va : IsPolynomial (residues p) a) (vb : IsPolynomial (residues p) b) where
  pub remainders_start : (first second u v s t : List ℕ) → IsRowOf w p first (length a) → take (length a) first ≡ a
      → IsRowOf w p second (length b) → take (length b) second ≡ b → 0 < length a + length b
      → u ≡ 1 ∷ [] → v ≡ [] → s ≡ [] → t ≡ 1 ∷ []
      → Remainders w p a b first second (length a) (length b) u v s t
  remainders_start first second u v s t rf ef rs es some eu ev e_s et = record {
    first_row = rf;
    second_row = rs;
    line = first_line p a b prime va vb (line_of p (take (length a) first) u s) (refl, refl, refl) eu e_s ef;
    next = second_line p a b prime va vb (line_of p (take (length b) second) v t) (refl, refl, refl) ev et es;
    short = start_short a b (line_of p (take (length a) first) u s) (line_of p (take (length b) second) v t) eu e_s ef ev et es;
    some = some;
    gcd = λ d G. subst (λ xs. IsGreatestCommonDivisor (residues p) xs b d) ef
        (subst (λ ys. IsGreatestCommonDivisor (residues p) (take (length a) first) ys d) es G);
  }

  module _ (first second : List ℕ) (m n : ℕ) (u v s t : List ℕ) (h : Remainders w p a b first second m n u v s t) (above : 0 < n) where
    pub remainders_room : length a ≤ w → length b ≤ w → (m + 1 - n + length v ≤ w + 1) × (m + 1 - n + length t ≤ w + 1)
    remainders_room la lb =
        let k = short_room w (length a) (length b) (length u) (length s) (length (take m first)) (length v) (length t) (length (take n second))
        h.short (omega (arith, row_length w p n second h.second_row)) la lb (omega (arith, row_length w p m first h.first_row, h.first_row.fits)) in
        let em = row_length w p m first h.first_row in
        let en = row_length w p n second h.second_row in
        (omega (arith, k.0, em, en), omega (arith, k.1, em, en))

    pub remainders_step : (q rest : List ℕ) (r : ℕ) (x y : List ℕ) → IsRowOf w p rest r
        → IsDivision (residues p) (take m first) (take n second) q (take r rest)
        → x ≡ poly_difference (mod_ops p) u (poly_product (mod_ops p) q v)
        → y ≡ poly_difference (mod_ops p) s (poly_product (mod_ops p) q t)
        → 1 < p
        → Remainders w p a b second rest n r v x t y
    remainders_step q rest r x y row D ex ey big =
        let l = line_of p (take m first) u s in
        let k = line_of p (take n second) v t in
        let j = line_of p (take r rest) x y in
        record {
          first_row = h.second_row;
          second_row = row;
          line = h.next;
          next = next_line p a b prime va vb l k j h.line h.next (refl, refl, refl) (q, D, ex, ey);
          short = next_short p a b prime va vb l k j h.line h.next (refl, refl, refl) (q, D, ex, ey)
              (omega (arith, row_length w p n second h.second_row)) h.short;
          some = omega arith;
          gcd = λ d G. h.gcd d (gcd_step (residues_propositional p) (residues_ring p big) (take m first) (take n second) q (take r rest) d
              h.line.g h.next.g D G);
        }

  -- at the end the last remainder, made monic, is the greatest common divisor
  module _ (first second : List ℕ) (m n : ℕ) (u v s t : List ℕ) (h : Remainders w p a b first second m n u v s t) (none : n ≡ 0) where
    pub last_not_zero : take m first ≢ []
    last_not_zero = not_nil_from_length (take m first) (omega (arith, row_length w p m first h.first_row, h.some))

    last_next : take n second ≡ []
    last_next = nil_from_length (take n second) (omega (arith, row_length w p n second h.second_row))

    pub last_gcd : (e : Bezout) → IsMonicMultiple p (line_of p (take m first) u s) e → IsGreatestCommonDivisor (residues p) a b e.g.coefficients
    last_gcd e made = h.gcd e.g.coefficients (subst (λ xs. IsGreatestCommonDivisor (residues p) (take m first) xs e.g.coefficients) (sym last_next)
        (monic_gcd p a b prime va vb (line_of p (take m first) u s) e h.line last_not_zero made))

    pub last_identity : (e : Bezout) → IsMonicMultiple p (line_of p (take m first) u s) e
        → poly_sum (mod_ops p) (poly_product (mod_ops p) e.u.coefficients a) (poly_product (mod_ops p) e.w.coefficients b) ≡ e.g.coefficients
    last_identity e made = monic_identity p a b prime va vb (line_of p (take m first) u s) e h.line last_not_zero made

    pub last_first : (e : Bezout) → IsMonicMultiple p (line_of p (take m first) u s) e
        → length e.u.coefficients ≤ max 1 (length b - length e.g.coefficients)
    last_first e made = omega (
      arith,
      h.short.first,
      monic_first p a b prime va vb (line_of p (take m first) u s) e h.line last_not_zero made,
      monic_g p a b prime va vb (line_of p (take m first) u s) e h.line last_not_zero made,
    )

    pub last_second : (e : Bezout) → IsMonicMultiple p (line_of p (take m first) u s) e
        → length e.w.coefficients ≤ max 1 (length a - length e.g.coefficients)
    last_second e made = omega (
      arith,
      h.short.second,
      monic_second p a b prime va vb (line_of p (take m first) u s) e h.line last_not_zero made,
      monic_g p a b prime va vb (line_of p (take m first) u s) e h.line last_not_zero made,
    )

    pub last_cofactor : (k x : List ℕ) → IsNormalizer p (take m first) k → length k ≤ 1 → x ≡ poly_product (mod_ops p) k u
        → IsCofactor p a b x
    last_cofactor k x normalizer short is =
        let e = line_of p (poly_product (mod_ops p) k (take m first)) x (poly_product (mod_ops p) k s) in
        let made : IsMonicMultiple p (line_of p (take m first) u s) e = (k, normalizer, short, refl, is, refl) in
        record {
          other = poly_product (mod_ops p) k s;
          divisor = poly_product (mod_ops p) k (take m first);
          polynomial = monic_second_polynomial p a b prime va vb (line_of p (take m first) u s) e h.line last_not_zero made;
          greatest = last_gcd e made;
          identity = last_identity e made;
          short = last_first e made;
        }

-- a monic multiple of three polynomials with these coefficients
pub multiple_of_line : (p : ℕ) (g u w : List ℕ) (l e : Bezout) → HasPrime p l → l.g.coefficients ≡ g → l.u.coefficients ≡ u → l.w.coefficients ≡ w
    → IsMonicMultiple l.g.prime l e → IsMonicMultiple p (line_of p g u w) e
multiple_of_line p g u w l e primes eg eu ew made = subst (λ k. IsMonicMultiple p k e) same
    (subst (λ q. IsMonicMultiple q l e) primes.0 made)
  where
    same : l ≡ line_of p g u w
    same = λ i. record {
      g = record { prime = primes.0 i; coefficients = eg i };
      u = record { prime = primes.1 i; coefficients = eu i };
      w = record { prime = primes.2 i; coefficients = ew i };
    }

-- the row of the constant 1
pub unit_row : (p : ℕ) (row : List ℕ) → ((k : ℕ) → slice_index row k ≡ slice_index (1 ∷ []) k) → trim (mod_ops p) row ≡ 1 ∷ []
unit_row p row h = trim_is (mod_ops p) (zero_test p) row (1 ∷ []) refl h

-- and that of zero
pub zero_row : (p : ℕ) (row : List ℕ) → ((k : ℕ) → slice_index row k ≡ 0) → trim (mod_ops p) row ≡ []
zero_row p row h = trim_is (mod_ops p) (zero_test p) row [] refl h
