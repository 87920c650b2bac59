-- Division with remainder on plain numbers modulo p, one place of the quotient after another.
use Rattle.std.proofs.Common.{◌≡◌, ◌≢◌, ℕ, zero, suc, ◌+◌, ◌-◌, ◌*◌, ◌%◌, ◌<◌, ◌≤◌, List, ◌∷◌, length, slice_index, take, drop, set, refl, ap, ap₂, sym, ◌∙◌, subst, arith, ⊎_elim, mod-eq_of_lt, mod-lt, get_or-take, length-take}
use Rattle.std.proofs.lemmas.Bool.{cases_lt, cases_eq}
use Rattle.std.proofs.lemmas.List.{get_or_past, get_or-drop, get_or-set_same, get_or-set_other, drop-set}
use Rattle.std.proofs.lemmas.List.Elements.{All-from_get_or}
use Rattle.std.proofs.lemmas.Nat.{mul-mod_first, mul-mod_second}
use native.Mathlib.Nat.{mod-add-mod, add-mod-mod, mod-mod, mul_assoc, mul_comm, mul-one, mul-zero, add-zero, zero-add, zero-mod, add_assoc, add_comm, add-mul-mod_self_left}
use Rattle.alg_model.specs.Coefficients.{mod_ops, residues}
use Rattle.alg_model.specs.Polynomials.{sum, product, trim, poly_product, convolution}
use Rattle.alg_model.specs.Factors.{IsPolynomial, IsDivision}
use Rattle.alg_model.specs.Fields.{IsRing}
use Rattle.alg_rings.proofs.Lists.{convolution_to_cons, convolution_to_same}
use Rattle.alg_rings.proofs.Trims.{trim_at, trim_is, length_trim_below}
use Rattle.alg_rings.proofs.Residues.{nat_ops, zero_test, product_mod, poly_product_mod, residues_ring}
use Rattle.alg_rings.proofs.ResidueFields.{residues_propositional}
use Rattle.alg_rings.proofs.Validity.{place_valid}
use Rattle.alg_rings.proofs.CarrierPolynomials.{sum_at}
use Rattle.ff_poly.proofs.Convolutions.{convolution_nil}

-- the factor that takes the highest place away: x / l = (x % p) * i, where i is the inverse of l
pub top_factor : (p x l i : ℕ) → 1 < p → (l * i) % p ≡ 1 → ((((x % p) * i) % p) * l) % p ≡ x % p
top_factor p x l i h e =
    mul-mod_first ((x % p) * i) l p
    ∙ ap (λ w. w % p) (mul_assoc (x % p) i l ∙ ap (λ w. (x % p) * w) (mul_comm i l))
    ∙ sym (mul-mod_second (x % p) (l * i) p)
    ∙ ap (λ w. ((x % p) * w) % p) e
    ∙ ap (λ w. w % p) (mul-one (x % p))
    ∙ mod-mod x p

-- at the other places t * y is taken off as (p - t) * y is added
taken_off : (t u p x y : ℕ) → u + t ≡ p → t * y + (x + u * y) ≡ x + p * y
taken_off t u p x y e =
    let f : t * y + (x + u * y) ≡ x + (u + t) * y = omega arith in f ∙ ap (λ w. x + w * y) e

pub other_factor : (p t x y : ℕ) → t ≤ p → (t * y + (x + (p - t) * y)) % p ≡ x % p
other_factor p t x y h =
    let e : p - t + t ≡ p = omega arith in
    ap (λ w. w % p) (taken_off t (p - t) p x y e) ∙ add-mul-mod_self_left x p y

-- a factor may be taken modulo p
pub negative_multiple : (p u x y : ℕ) → (x + u % p * y) % p ≡ (x + u * y) % p
negative_multiple p u x y = sym (add-mod-mod x (u % p * y) p) ∙ ap (λ w. (x + w) % p) (mul-mod_first u y p) ∙ add-mod-mod x (u * y) p

-- where t * y is x, nothing is left of x
pub multiple_gone : (p t x y : ℕ) → t ≤ p → (t * y) % p ≡ x % p → (x + (p - t) * y) % p ≡ 0
multiple_gone p t x y h e =
    let whole : t * y + (p - t) * y ≡ 0 + p * y = let q : p - t + t ≡ p = omega arith in
    let r : t * y + (p - t) * y ≡ (p - t + t) * y = omega arith in r ∙ ap (λ w. w * y) q ∙ sym (zero-add (p * y)) in
    sym (mod-add-mod x p ((p - t) * y)) ∙ ap (λ w. (w + (p - t) * y) % p) (sym e) ∙ mod-add-mod (t * y) p ((p - t) * y)
    ∙ ap (λ w. w % p) whole ∙ add-mul-mod_self_left 0 p y ∙ zero-mod p

sum_step : (p y n c r : ℕ) → (y + n) % p ≡ r % p → (y + c + n) % p ≡ (c + r) % p
sum_step p y n c r e =
    let swapped : y + c + n ≡ y + n + c = omega arith in
    ap (λ w. w % p) swapped ∙ sym (mod-add-mod (y + n) p c) ∙ ap (λ w. (w + c) % p) e ∙ mod-add-mod r p c ∙ ap (λ w. w % p) (add_comm r c)

-- the places after one step: what the quotient's new place makes, and what is left, is what was left before
pub division_step : (p at t : ℕ) (q d rest next f : List ℕ)
    → ((k : ℕ) → (t * slice_index d k + slice_index next (at + k)) % p ≡ slice_index rest (at + k) % p)
    → slice_index rest at ≡ slice_index f at
    → ((k : ℕ) → (convolution nat_ops q d k + slice_index rest (at + 1 + k)) % p ≡ slice_index f (at + 1 + k) % p)
    → (k : ℕ) → (convolution nat_ops (t ∷ q) d k + slice_index next (at + k)) % p ≡ slice_index f (at + k) % p
division_step p at t q d rest next f taken first before zero =
    let here : at + 0 ≡ at = omega arith in
    taken 0 ∙ ap (λ i. slice_index rest i % p) here ∙ ap (λ w. w % p) first ∙ ap (λ i. slice_index f i % p) (sym here)
division_step p at t q d rest next f taken first before (suc k) =
    let here : at + suc k ≡ at + 1 + k = omega arith in
    ap (λ w. (w + slice_index next (at + suc k)) % p) (convolution_to_cons nat_ops add_assoc k t q d k)
    ∙ sum_step p (t * slice_index d (suc k)) (slice_index next (at + suc k)) (convolution nat_ops q d k) (slice_index rest (at + suc k)) (taken (suc k))
    ∙ ap (λ i. (convolution nat_ops q d k + slice_index rest i) % p) here
    ∙ before k
    ∙ ap (λ i. slice_index f i % p) (sym here)

-- what the division of f by d keeps while the places of the quotient from `at` on are known
pub record Divided (p degree steps at : ℕ) (q d rest f : List ℕ) : Type 0 where
  pub steps_left : at ≤ steps
  pub division : (k : ℕ) → (convolution nat_ops (drop at q) d k + slice_index rest (at + k)) % p ≡ slice_index f (at + k) % p
  pub untouched : (k : ℕ) → k < at → slice_index rest k ≡ slice_index f k
  pub cleared : (k : ℕ) → at + degree ≤ k → slice_index rest k ≡ 0
  pub rest_residues : (k : ℕ) → slice_index rest k < p
  pub residues : (k : ℕ) → slice_index q k < p

pub start_division : (p degree steps : ℕ) (q d f : List ℕ)
    → ((k : ℕ) → slice_index q k ≡ 0) → ((k : ℕ) → steps + degree ≤ k → slice_index f k ≡ 0) → ((k : ℕ) → slice_index f k < p) → 1 < p
    → Divided p degree steps steps q d f f
start_division p degree steps q d f blank within small above = record {
  steps_left = omega arith;
  division = λ k. ap (λ w. (w + slice_index f (steps + k)) % p)
      (convolution_nil (drop steps q) d k (λ i. get_or-drop steps q i 0 ∙ blank (steps + i)))
      ∙ ap (λ w. w % p) (zero-add (slice_index f (steps + k)));
  untouched = λ k h. refl;
  cleared = within;
  rest_residues = small;
  residues = λ k. let h : slice_index q k ≡ 0 = blank k in omega arith;
}

-- one round: t at the place `at` of the quotient, and t * x^at * d off the rest
module _ (p degree steps at t : ℕ) (q d rest added f : List ℕ)
    (known : Divided p degree steps (at + 1) q d rest f)
    (residue : t < p)
    (last : length d ≤ degree + 1)
    (top : (t * slice_index d degree) % p ≡ slice_index rest (at + degree) % p)
    (below : (k : ℕ) → k < at → slice_index added k ≡ slice_index rest k)
    (above : (k : ℕ) → slice_index added (at + k) % p ≡ (slice_index rest (at + k) + (p - t) * slice_index d k) % p)
    (added_residues : (k : ℕ) → slice_index added k < p)
    (quotient_room : at < length q)
    (room : at + degree < length added)
  where
    abbrev next : List ℕ
    next = set added (at + degree) 0

    next_top : slice_index next (at + degree) ≡ 0
    next_top = get_or-set_same added (at + degree) 0 0 room

    next_other : (k : ℕ) → k ≢ at + degree → slice_index next k ≡ slice_index added k
    next_other k h = get_or-set_other added (at + degree) k 0 0 h

    taken : (k : ℕ) → (t * slice_index d k + slice_index next (at + k)) % p ≡ slice_index rest (at + k) % p
    taken k =
        ⊎_elim
        (λ e. subst (λ i. (t * slice_index d i + slice_index next (at + i)) % p ≡ slice_index rest (at + i) % p) (sym e)
        (ap (λ w. (t * slice_index d degree + w) % p) next_top ∙ ap (λ w. w % p) (add-zero (t * slice_index d degree)) ∙ top))
        (λ e. ap (λ w. (t * slice_index d k + w) % p) (next_other (at + k) (omega arith))
        ∙ sym (add-mod-mod (t * slice_index d k) (slice_index added (at + k)) p)
        ∙ ap (λ w. (t * slice_index d k + w) % p) (above k)
        ∙ add-mod-mod (t * slice_index d k) (slice_index rest (at + k) + (p - t) * slice_index d k) p
        ∙ other_factor p t (slice_index rest (at + k)) (slice_index d k) (omega arith))
        (cases_eq k degree)

    next_division : (k : ℕ) → (convolution nat_ops (drop at (set q at t)) d k + slice_index next (at + k)) % p ≡ slice_index f (at + k) % p
    next_division k =
        ap (λ xs. (convolution nat_ops xs d k + slice_index next (at + k)) % p) (drop-set q at t quotient_room)
        ∙ division_step p at t (drop (at + 1) q) d rest next f taken (known.untouched at (omega arith)) known.division k

    next_cleared : (k : ℕ) → at + degree ≤ k → slice_index next k ≡ 0
    next_cleared k h =
        ⊎_elim
        (λ e. subst (λ i. slice_index next i ≡ 0) (sym e) next_top)
        (λ e.
        let j : at + (k - at) ≡ k = omega arith in
        let past : slice_index d (k - at) ≡ 0 = get_or_past d (k - at) 0 (omega arith) in
        let gone : slice_index rest k ≡ 0 = known.cleared k (omega arith) in
        next_other k e
        ∙ sym (mod-eq_of_lt (added_residues k))
        ∙ subst (λ i. slice_index added i % p ≡ (slice_index rest i + (p - t) * slice_index d (k - at)) % p) j (above (k - at))
        ∙ ap₂ (λ v w. (v + (p - t) * w) % p) gone past ∙ ap (λ w. w % p) (zero-add ((p - t) * 0) ∙ mul-zero (p - t)) ∙ zero-mod p)
        (cases_eq k (at + degree))

    next_residues : (k : ℕ) → slice_index next k < p
    next_residues k =
        ⊎_elim
        (λ e. subst (λ i. slice_index next i < p) (sym e) (omega (arith, next_top)))
        (λ e. let same = next_other k e in omega (arith, added_residues k))
        (cases_eq k (at + degree))

    pub division_round : Divided p degree steps at (set q at t) d (set added (at + degree) 0) f
    division_round = record {
      steps_left = let left : at + 1 ≤ steps = known.steps_left in omega arith;
      division = next_division;
      untouched = λ k h. next_other k (omega arith) ∙ below k h ∙ known.untouched k (omega arith);
      cleared = next_cleared;
      rest_residues = next_residues;
      residues = λ k. ⊎_elim
          (λ e. subst (λ i. slice_index (set q at t) i < p) (sym e) (let s = get_or-set_same q at t 0 quotient_room in omega arith))
          (λ e. let s = get_or-set_other q at k t 0 e in omega (arith, known.residues k))
          (cases_eq k at);
    }

-- the places of quotient and rest make a division of the polynomials that they stand for
module _ (p : ℕ) (f d quotient rest q r : List ℕ)
    (above : 1 < p)
    (dividend : IsPolynomial (residues p) f)
    (divisor : 0 < length d)
    (quotient_is : q ≡ trim (mod_ops p) quotient)
    (quotient_polynomial : IsPolynomial (residues p) q)
    (rest_polynomial : IsPolynomial (residues p) r)
    (rest_at : (k : ℕ) → slice_index r k ≡ slice_index (take (length d - 1) rest) k % p)
    (smaller : (k : ℕ) → length d ≤ k + 1 → slice_index rest k ≡ 0)
    (division : (k : ℕ) → (slice_index (product (mod_ops p) quotient d) k + slice_index rest k) % p ≡ slice_index f k % p)
  where
    whole_rest_at : (k : ℕ) → slice_index r k ≡ slice_index rest k % p
    whole_rest_at k =
        rest_at k ∙ ap (λ w. w % p)
        (⊎_elim
        (λ h. get_or-take (length d - 1) rest k 0 h)
        (λ h. get_or_past (take (length d - 1) rest) k 0 (omega (arith, length-take (length d - 1) rest)) ∙ sym (smaller k (omega arith)))
        (cases_lt k (length d - 1)))

    product_places : (k : ℕ) → slice_index (poly_product (mod_ops p) q d) k ≡ slice_index (product (mod_ops p) quotient d) k
    product_places k =
        poly_product_mod p q d k
        ∙ ap (λ w. w % p) (ap (λ xs. convolution nat_ops xs d k) quotient_is
        ∙ convolution_to_same nat_ops k (trim (mod_ops p) quotient) quotient d d k (trim_at (mod_ops p) (zero_test p) quotient) (λ i. refl))
        ∙ sym (product_mod p quotient d k)

    ring : IsRing (residues p)
    ring = residues_ring p above

    product_below : (k : ℕ) → slice_index (poly_product (mod_ops p) q d) k < p
    product_below k = let e = poly_product_mod p q d k in let h : convolution nat_ops q d k % p < p = mod-lt (convolution nat_ops q d k) (omega arith) in omega arith

    pub division_of_places : IsDivision (residues p) f d q r
    division_of_places = record {
      quotient = quotient_polynomial;
      remainder = rest_polynomial;
      identity = trim_is (mod_ops p) (zero_test p) (sum (mod_ops p) (poly_product (mod_ops p) q d) r) f dividend.1
          (λ k. sum_at (residues_propositional p) ring (poly_product (mod_ops p) q d) r k
          (All-from_get_or (λ x. x < p) (poly_product (mod_ops p) q d) 0 (λ i h. product_below i)) rest_polynomial.0
          ∙ ap₂ (λ v w. (v + w) % p) (product_places k) (whole_rest_at k)
          ∙ add-mod-mod (slice_index (product (mod_ops p) quotient d) k) (slice_index rest k) p
          ∙ division k
          ∙ mod-eq_of_lt (place_valid ring f k dividend.0));
      smaller = omega (
        arith,
        ap length rest_polynomial.1,
        length_trim_below (mod_ops p) (zero_test p) r (length d - 1)
            (λ k h. whole_rest_at k ∙ ap (λ w. w % p) (smaller k (omega arith)) ∙ zero-mod p),
      );
    }
