-- Remainders by a monic f of degree n, place by place: c + x g has the remainder c + x r less a
-- multiple of f, so that the remainder of g is the sum of its coefficients times the remainders of
-- the powers of x.
use Rattle.std.proofs.Common.{◌≡◌, ◌≢◌, ℕ, zero, suc, ◌+◌, ◌-◌, ◌*◌, ◌%◌, ◌<◌, List, [], ◌∷◌, length, replicate, slice_index, slice_index_or, slice_set, All, refl, ap, ap₂, sym, ◌∙◌, arith, length-take, get_or-take, mod-eq_of_lt, ⊎_elim}
use Rattle.std.proofs.lemmas.List.{length-replicate, length-set, get_or-set_same, get_or-set_other}
use Rattle.std.proofs.lemmas.Bool.{cases_eq}
use Rattle.std.proofs.lemmas.Nat.{mul-mod_first}
use Rattle.std.proofs.lemmas.List.Elements.{All-tail, All-set, All-from_get_or}
use Rattle.std.proofs.Math.Nat.{add-mul-mod_self_left}
use native.Mathlib.Nat.{mod-mod, zero-mod, mul-zero, add-zero, zero-add, mul-one}
use Rattle.alg_model.specs.Coefficients.{mod_ops, residues}
use Rattle.alg_model.specs.Polynomials.{sum, scale}
use Rattle.alg_model.specs.Values.{degree, times_x, remainder}
use Rattle.alg_rings.proofs.Lists
use Rattle.alg_fields.proofs.ListRemainders.{zeros_at, length_remainder}
use Rattle.ff_poly.specs.declared.TheConstants.{MAX_DEGREE}
use Rattle.ff_residues.specs.SumRows.{sum_below, IsRowOf}
use Rattle.ff_residues.proofs.SumsBelow.{add_agree, mul_agree, sum_same, sum_first, sum_split, sum_single}
use Rattle.ff_field.specs.PrivateTables.{first_place, place_before, times_x_place, power_place, IsTable}

-- a place of a sum, where both lists have it
pub sum_at_both : (p : ℕ) (f g : List ℕ) (k : ℕ) → k < length f → k < length g
    → slice_index (sum (mod_ops p) f g) k ≡ (slice_index f k + slice_index g k) % p
sum_at_both p [] g k l m = absurd (omega arith)
sum_at_both p (x ∷ xs) [] k l m = absurd (omega arith)
sum_at_both p (x ∷ xs) (y ∷ ys) zero l m = refl
sum_at_both p (x ∷ xs) (y ∷ ys) (suc k) l m = sum_at_both p xs ys k (omega arith) (omega arith)

-- a place of a multiple
pub scale_at : (p c : ℕ) (f : List ℕ) (k : ℕ)
    → slice_index (scale (mod_ops p) c f) k ≡ (c * slice_index f k) % p
scale_at p c [] k = sym (ap (λ w. w % p) (mul-zero c) ∙ zero-mod p)
scale_at p c (x ∷ xs) zero = refl
scale_at p c (x ∷ xs) (suc k) = scale_at p c xs k

-- a negative times y, without negatives
pub negative_product : (p t y : ℕ) → t < p → ((p - t) % p * y) % p ≡ ((p - 1) * t * y) % p
negative_product p t y l =
    let d : p ≡ t + (p - t) = omega arith in
    let s : p ≡ p - 1 + 1 = omega arith in
    let u : (p - 1 + 1) * t ≡ (p - 1) * t + t = grind arith in
    let v : p * t ≡ (p - 1) * t + t = ap (λ w. w * t) s ∙ u in
    let w : (p - 1) * t + p ≡ (p - t) + p * t = omega (arith, v) in
    let x : ((p - 1) * t + p) * y ≡ (p - t + p * t) * y = ap (λ z. z * y) w in
    let e : (p - 1) * t * y + p * y ≡ (p - t) * y + p * (t * y) = grind arith in
    mul-mod_first (p - t) y p
    ∙ sym (add-mul-mod_self_left ((p - t) * y) p (t * y))
    ∙ ap (λ z. z % p) (sym e)
    ∙ add-mul-mod_self_left ((p - 1) * t * y) p y

-- the places of 1 with zeros, times c
constant_at : (c n k : ℕ) → slice_index (c ∷ replicate n 0) k ≡ c * first_place k
constant_at c n zero = sym (mul-one c)
constant_at c n (suc k) = zeros_at 0 n k ∙ sym (mul-zero c)

module _ (p : ℕ) (f : List ℕ) where
  abbrev n : ℕ
  n = degree f

  abbrev step : (ℕ → ℕ) → ℕ → ℕ
  step = times_x_place p f

  -- repeated
  abbrev steps : ℕ → (ℕ → ℕ) → ℕ → ℕ
  steps zero r = r
  steps (suc m) r = times_x_place p f (steps m r)

  -- ---- what it keeps
  before_agree : (r s : ℕ → ℕ) → ((k : ℕ) → k < n → r k % p ≡ s k % p)
      → (k : ℕ) → k < n → place_before r k % p ≡ place_before s k % p
  before_agree r s h zero l = refl
  before_agree r s h (suc k) l = h k (omega arith)

  pub step_agree : (r s : ℕ → ℕ) → ((k : ℕ) → k < n → r k % p ≡ s k % p)
      → (k : ℕ) → k < n → step r k % p ≡ step s k % p
  step_agree r s h k l =
      let y = slice_index f k in
      let e = h (n - 1) (omega arith) in
      add_agree p (place_before r k) ((p - 1) * r (n - 1) * y) (place_before s k)
      ((p - 1) * s (n - 1) * y) (before_agree r s h k l)
      (sym (mul-mod_first ((p - 1) * r (n - 1)) y p)
      ∙ ap (λ w. (w * y) % p) (mul_agree p (p - 1) (r (n - 1)) (s (n - 1)) e)
      ∙ mul-mod_first ((p - 1) * s (n - 1)) y p)

  steps_agree : (m : ℕ) (r s : ℕ → ℕ) → ((k : ℕ) → k < n → r k % p ≡ s k % p)
      → (k : ℕ) → k < n → steps m r k % p ≡ steps m s k % p
  steps_agree zero r s h = h
  steps_agree (suc m) r s h = step_agree (steps m r) (steps m s) (steps_agree m r s h)

  before_linear : (c : ℕ) (r s t : ℕ → ℕ) → ((k : ℕ) → t k ≡ c * r k + s k)
      → (k : ℕ) → place_before t k ≡ c * place_before r k + place_before s k
  before_linear c r s t h zero = let z : c * 0 + 0 ≡ 0 = omega arith in sym z
  before_linear c r s t h (suc k) = h k

  step_linear : (c : ℕ) (r s t : ℕ → ℕ) → ((k : ℕ) → t k ≡ c * r k + s k)
      → (k : ℕ) → step t k ≡ c * step r k + step s k
  step_linear c r s t h k =
      ap₂ (λ u v. u + (p - 1) * v * slice_index f k) (before_linear c r s t h k) (h (n - 1))
      ∙ gather c (place_before r k) (place_before s k) (p - 1) (r (n - 1)) (s (n - 1)) (slice_index f k)
    where
      gather : (c a b q u v y : ℕ)
          → c * a + b + q * (c * u + v) * y ≡ c * (a + q * u * y) + (b + q * v * y)
      gather c a b q u v y = grind arith

  steps_linear : (m c : ℕ) (r s t : ℕ → ℕ) → ((k : ℕ) → t k ≡ c * r k + s k)
      → (k : ℕ) → steps m t k ≡ c * steps m r k + steps m s k
  steps_linear zero c r s t h = h
  steps_linear (suc m) c r s t h =
      step_linear c (steps m r) (steps m s) (steps m t) (steps_linear m c r s t h)

  step_same : (r s : ℕ → ℕ) → ((k : ℕ) → r k ≡ s k) → (k : ℕ) → step r k ≡ step s k
  step_same r s h zero = ap (λ v. 0 + (p - 1) * v * slice_index f 0) (h (n - 1))
  step_same r s h (suc k) = ap₂ (λ u v. u + (p - 1) * v * slice_index f (suc k)) (h k) (h (n - 1))

  steps_of_step : (m : ℕ) (r : ℕ → ℕ) (k : ℕ) → steps m (step r) k ≡ steps (suc m) r k
  steps_of_step zero r k = refl
  steps_of_step (suc m) r k = step_same (steps m (step r)) (steps (suc m) r) (steps_of_step m r) k

  before_zero : (r : ℕ → ℕ) → ((k : ℕ) → r k ≡ 0) → (k : ℕ) → place_before r k ≡ 0
  before_zero r h zero = refl
  before_zero r h (suc k) = h k

  steps_zero : (m : ℕ) (r : ℕ → ℕ) → ((k : ℕ) → r k ≡ 0) → (k : ℕ) → steps m r k ≡ 0
  steps_zero zero r h k = h k
  steps_zero (suc m) r h k =
      ap₂ (λ u v. u + (p - 1) * v * slice_index f k)
      (before_zero (steps m r) (steps_zero m r h) k) (steps_zero m r h (n - 1))
      ∙ nothing (p - 1) (slice_index f k)
    where
      nothing : (q y : ℕ) → 0 + q * 0 * y ≡ 0
      nothing q y = grind arith

  power_steps : (i k : ℕ) → power_place p f i k ≡ steps i first_place k
  power_steps zero k = refl
  power_steps (suc i) k = step_same (power_place p f i) (steps i first_place) (power_steps i) k

  -- ---- small powers of x are units
  unit_step : (i : ℕ) (r : ℕ → ℕ) → suc i < n → r i ≡ 1 → ((k : ℕ) → k ≢ i → r k ≡ 0)
      → (step r (suc i) ≡ 1) × ((k : ℕ) → k ≢ suc i → step r k ≡ 0)
  unit_step i r l one other =
      let top : r (n - 1) ≡ 0 = other (n - 1) (omega arith) in (
        ap₂ (λ u v. u + (p - 1) * v * slice_index f (suc i)) one top ∙ alone 1 (p - 1) (slice_index f (suc i)),
        each top,
      )
    where
      alone : (a q y : ℕ) → a + q * 0 * y ≡ a
      alone a q y = grind arith

      each : r (n - 1) ≡ 0 → (k : ℕ) → k ≢ suc i → step r k ≡ 0
      each top zero d = ap (λ v. 0 + (p - 1) * v * slice_index f 0) top
          ∙ alone 0 (p - 1) (slice_index f 0)
      each top (suc k) d = ap₂ (λ u v. u + (p - 1) * v * slice_index f (suc k))
          (other k (λ e. d (ap suc e))) top ∙ alone 0 (p - 1) (slice_index f (suc k))

  first_others : (k : ℕ) → k ≢ 0 → first_place k ≡ 0
  first_others zero d = absurd (d refl)
  first_others (suc k) d = refl

  pub power_unit : (i : ℕ) → i < n
      → (power_place p f i i ≡ 1) × ((k : ℕ) → k ≢ i → power_place p f i k ≡ 0)
  power_unit zero l = (refl, first_others)
  power_unit (suc i) l =
      let h = power_unit i (omega arith) in unit_step i (power_place p f i) l h.0 h.1

  module _ (not_constant : 1 < length f) (positive : 0 < p) where
    -- **one step is the remainder of x times r**
    pub times_x_at : (r : List ℕ) → length r ≡ degree f → slice_index r (degree f - 1) < p
        → (k : ℕ) → k < degree f
        → slice_index (times_x (mod_ops p) f r) k ≡ times_x_place p f (slice_index r) k % p
    times_x_at r e small k l =
        let t = (p - slice_index r (n - 1)) % p in
        let whole = sum (mod_ops p) (0 ∷ r) (scale (mod_ops p) t f) in
        get_or-take n whole k 0 l
        ∙ sum_at_both p (0 ∷ r) (scale (mod_ops p) t f) k (omega (arith, e))
        (omega (arith, Lists.length_scale (mod_ops p) t f))
        ∙ add_agree p (slice_index (0 ∷ r) k) (slice_index (scale (mod_ops p) t f) k)
        (place_before (slice_index r) k) ((p - 1) * slice_index r (n - 1) * slice_index f k)
        (ap (λ w. w % p) (cons_at r k))
        (ap (λ w. w % p) (scale_at p t f k) ∙ mod-mod (t * slice_index f k) p
        ∙ negative_product p (slice_index r (n - 1)) (slice_index f k) small)
      where
        cons_at : (r : List ℕ) (k : ℕ) → slice_index (0 ∷ r) k ≡ place_before (slice_index r) k
        cons_at r zero = refl
        cons_at r (suc k) = refl

    -- **the remainder of c + x g**
    remainder_at : (c : ℕ) (g : List ℕ) → slice_index (remainder (mod_ops p) f g) (degree f - 1) < p
        → (k : ℕ) → k < degree f → slice_index (remainder (mod_ops p) f (c ∷ g)) k
        ≡ (c * first_place k + times_x_place p f (slice_index (remainder (mod_ops p) f g)) k) % p
    remainder_at c g small k l =
        let o = mod_ops p in
        let r = remainder o f g in
        let e : length r ≡ n = length_remainder o f not_constant g in
        let first = c ∷ replicate (n - 1) 0 in
        sum_at_both p first (times_x o f r) k (omega (arith, length-replicate {A = ℕ} (n - 1) 0))
        (omega (arith, length_times_x r e))
        ∙ add_agree p (slice_index first k) (slice_index (times_x o f r) k)
        (c * first_place k) (times_x_place p f (slice_index r) k)
        (ap (λ w. w % p) (constant_at c (n - 1) k))
        (ap (λ w. w % p) (times_x_at r e small k l) ∙ mod-mod (times_x_place p f (slice_index r) k) p)
      where
        length_times_x : (r : List ℕ) → length r ≡ n → length (times_x (mod_ops p) f r) ≡ n
        length_times_x r e =
            let t = (p - slice_index r (n - 1)) % p in
            let whole = sum (mod_ops p) (0 ∷ r) (scale (mod_ops p) t f) in
            length-take n whole
            ∙ omega (
              arith,
              Lists.length_sum (mod_ops p) (0 ∷ r) (scale (mod_ops p) t f),
              Lists.length_scale (mod_ops p) t f,
            )

    module _ (reduced : (g : List ℕ) → All (λ a. a < p) g → (k : ℕ)
        → slice_index (remainder (mod_ops p) f g) k < p) where
      -- the sum of the coefficients times the remainders of the powers of x
      shifted_remainder : (g : List ℕ) → All (λ a. a < p) g → (m k : ℕ) → k < degree f
          → steps m (slice_index (remainder (mod_ops p) f g)) k % p
          ≡ sum_below (length g) (λ i. slice_index g i * steps (m + i) first_place k) % p
      shifted_remainder [] v m k l =
          ap (λ w. w % p) (steps_zero m (slice_index (replicate n 0)) (zeros_at 0 n) k)
      shifted_remainder (c ∷ g) v m k l =
          let vg = All-tail (λ a. a < p) c g v in
          let r = slice_index (remainder (mod_ops p) f g) in
          let whole : (j : ℕ) → ℕ = λ j. c * first_place j + step r j in
          steps_agree m (slice_index (remainder (mod_ops p) f (c ∷ g))) whole
          (λ j h. ap (λ w. w % p) (remainder_at c g (reduced g vg (n - 1)) j h) ∙ mod-mod (whole j) p) k l
          ∙ ap (λ w. w % p) (steps_linear m c first_place (step r) whole (λ j. refl) k)
          ∙ add_agree p (c * steps m first_place k) (steps m (step r) k)
          (c * steps (m + 0) first_place k)
          (sum_below (length g) (λ i. slice_index g i * steps (m + suc i) first_place k))
          (ap (λ i. (c * steps i first_place k) % p) (sym (add-zero m)))
          (ap (λ w. w % p) (steps_of_step m r k) ∙ shifted_remainder g vg (suc m) k l
          ∙ ap (λ w. w % p) (sum_same (length g) (λ i. slice_index g i * steps (suc m + i) first_place k)
          (λ i. slice_index g i * steps (m + suc i) first_place k)
          (λ i h. let e : suc m + i ≡ m + suc i = omega arith in
          ap (λ j. slice_index g i * steps j first_place k) e)))
          ∙ ap (λ w. w % p) (sym (sum_first (length g)
          (λ i. slice_index (c ∷ g) i * steps (m + i) first_place k)))

      -- **the remainder by kept rows**: n coefficients stay, and each later one adds a multiple of
      -- the remainder of its power of x
      pub remainder_by_rows : (g : List ℕ) → All (λ a. a < p) g → (m : ℕ) → length g ≡ degree f + m
          → (k : ℕ) → k < degree f → slice_index (remainder (mod_ops p) f g) k
          ≡ (slice_index g k + sum_below m
          (λ j. slice_index g (degree f + j) * power_place p f (degree f + j) k)) % p
      remainder_by_rows g v m e k l =
          let term : (i : ℕ) → ℕ = λ i. slice_index g i * steps i first_place k in
          let unit : (i : ℕ) → i ≢ k → i < n → term i ≡ 0 =
          λ i d h. ap (λ w. slice_index g i * w) (sym (power_steps i k)
          ∙ (power_unit i h).1 k (λ s. d (sym s))) ∙ mul-zero (slice_index g i) in
          sym (mod-eq_of_lt (reduced g v k))
          ∙ shifted_remainder g v 0 k l
          ∙ ap (λ w. w % p) (sum_same (length g) (λ i. slice_index g i * steps (0 + i) first_place k) term
          (λ i h. ap (λ j. slice_index g i * steps j first_place k) (zero-add i))
          ∙ ap (λ i. sum_below i term) e ∙ sum_split n m term
          ∙ ap₂ ◌+◌ (sum_single n k term l unit
          ∙ ap (λ w. slice_index g k * w) (sym (power_steps k k) ∙ (power_unit k l).0)
          ∙ mul-one (slice_index g k))
          (sum_same m (λ j. term (n + j))
          (λ j. slice_index g (n + j) * power_place p f (n + j) k)
          (λ j h. ap (λ w. slice_index g (n + j) * w) (sym (power_steps (n + j) k)))))

-- one place of a step, reduced
pub reduced_step : (p : ℕ) (f : List ℕ) (r : ℕ → ℕ) (k : ℕ) → r (length f - 1 - 1) < p
    → (place_before r k + (p - r (length f - 1 - 1)) % p * slice_index f k) % p
    ≡ times_x_place p f r k % p
reduced_step p f r k l =
    let t = r (length f - 1 - 1) in
    let y = slice_index f k in
    add_agree p (place_before r k) ((p - t) % p * y) (place_before r k) ((p - 1) * t * y) refl
    (negative_product p t y l)

-- ---- tables
-- one row more
pub one_row : (p n i : ℕ) (place : ℕ → ℕ → ℕ) (table : List (List ℕ)) (row : List ℕ)
    → i < MAX_DEGREE → IsRowOf p MAX_DEGREE row
    → ((k : ℕ) → k < n → slice_index row k ≡ place i k % p) → IsTable p n i place table
    → IsTable p n (i + 1) place (slice_set table i row)
one_row p n i place table row within residues is T = record {
  count = length-set table i row ∙ T.count;
  rows = All-set (IsRowOf p MAX_DEGREE) table i row residues T.rows;
  places = λ j k l m. ⊎_elim
      (λ e. ap (λ r. slice_index r k)
      (ap (λ j. slice_index_or (slice_set table i row) j []) e
      ∙ get_or-set_same table i row [] (omega (arith, T.count)))
      ∙ is k m ∙ ap (λ j. place j k % p) (sym e))
      (λ d. ap (λ r. slice_index r k) (get_or-set_other table i j row [] d)
      ∙ T.places j k (omega arith) m)
      (cases_eq j i);
}

-- no row yet
pub no_rows : (p n : ℕ) (place : ℕ → ℕ → ℕ) (table : List (List ℕ)) → length table ≡ MAX_DEGREE
    → All (IsRowOf p MAX_DEGREE) table → IsTable p n 0 place table
no_rows p n place table long rows =
    record { count = long; rows = rows; places = λ i k l m. absurd (omega arith) }

-- x^(n - 1) is its own remainder
pub last_unit_row : (p : ℕ) (f : List ℕ) (row : List ℕ) → 1 < p → 1 < length f
    → slice_index row (degree f - 1) ≡ 1
    → ((k : ℕ) → k < degree f - 1 → slice_index row k ≡ 0)
    → (k : ℕ) → k < degree f → slice_index row k ≡ power_place p f (degree f - 1 + 0) k % p
last_unit_row p f row above not_constant one others k l =
    let m = degree f - 1 in
    let u = power_unit p f m (omega arith) in
    let same : m + 0 ≡ m = omega arith in
    ⊎_elim
    (λ e. ap (slice_index row) e ∙ one ∙ sym (mod-eq_of_lt above)
    ∙ ap (λ w. w % p) (sym u.0 ∙ ap (power_place p f m) (sym e))
    ∙ ap (λ i. power_place p f i k % p) (sym same))
    (λ d. others k (omega arith) ∙ sym (zero-mod p) ∙ ap (λ w. w % p) (sym (u.1 k d))
    ∙ ap (λ i. power_place p f i k % p) (sym same))
    (cases_eq k m)

-- the next row
pub next_row : (p : ℕ) (f row next : List ℕ) (i : ℕ) → 1 < length f
    → ((k : ℕ) → k < degree f → slice_index row k ≡ power_place p f (degree f - 1 + i) k % p)
    → ((k : ℕ) → k < length f - 1
    → slice_index next k ≡ times_x_place p f (slice_index row) k % p)
    → (j : ℕ) → j ≡ degree f + i
    → (k : ℕ) → k < degree f → slice_index next k ≡ power_place p f j k % p
next_row p f row next i not_constant is made j e k l =
    let before = power_place p f (degree f - 1 + i) in
    let same : suc (degree f - 1 + i) ≡ j = omega arith in
    made k l
    ∙ step_agree p f (slice_index row) before
    (λ k m. ap (λ w. w % p) (is k m) ∙ mod-mod (before k) p) k l
    ∙ ap (λ i. power_place p f i k % p) same

-- a row of zeros
pub zeros_row : (p : ℕ) (row : List ℕ) → 0 < p → length row ≡ MAX_DEGREE
    → ((k : ℕ) → slice_index row k ≡ 0) → IsRowOf p MAX_DEGREE row
zeros_row p row positive long blank = record {
  wide = omega (arith, long);
  residues = All-from_get_or (λ x. x < p) row 0
      (λ i l. let e : slice_index row i ≡ 0 = blank i in omega (arith, e));
}
