-- What is kept when columns go through the elimination one after another, in numbers modulo p.
use Rattle.std.proofs.Common.{◌≡◌, ◌≢◌, ℕ, zero, suc, ◌+◌, ◌-◌, ◌*◌, ◌%◌, ◌<◌, ◌≤◌, List, [], ◌∷◌, ◌++◌, length, slice_index, slice_index_or, slice_set, refl, ap, ap₂, sym, ◌∙◌, subst, ⊎_elim, arith, mod-eq_of_lt}
use Rattle.std.proofs.lemmas.Bool.{cases_eq}
use Rattle.std.proofs.lemmas.List.{get_or_past, get_or-set_same, get_or-set_other, length-append, get_or_append_left, get_or_push}
use Rattle.std.proofs.Math.Nat.{mod_self, add-mul-mod_self_right, mul_comm}
use native.Mathlib.Nat.{mod-mod, add-mod-mod, add-zero, zero-add, mul-zero, zero-mul, mul-one, zero-mod}
use Rattle.ff_residues.proofs.SumsBelow.{add_agree, mul_agree, sum_agree, sum_zero}
use Rattle.ff_minpoly.specs.PrivateSpans.{combined, InSpan, IsNoted, IsSpan, IsReduced, IsNormal}

-- ---- combinations of columns
gather : (b f d x y c : ℕ) → b + f * d + (x + f * y) * c ≡ b + x * c + f * (d + y * c)
gather b f d x y c = grind arith

-- of a sum with a multiple
pub combined_sum : (m f : ℕ) (x y : ℕ → ℕ) (col : ℕ → ℕ → ℕ) (k : ℕ)
    → combined m (λ i. x i + f * y i) col k ≡ combined m x col k + f * combined m y col k
combined_sum zero f x y col k = sym (ap (λ w. 0 + w) (mul-zero f) ∙ add-zero 0)
combined_sum (suc m) f x y col k =
    ap (λ w. w + (x m + f * y m) * col m k) (combined_sum m f x y col k)
    ∙ gather (combined m x col k) f (combined m y col k) (x m) (y m) (col m k)

-- a multiple
pub combined_multiple : (m f : ℕ) (x : ℕ → ℕ) (col : ℕ → ℕ → ℕ) (k : ℕ)
    → combined m (λ i. f * x i) col k ≡ f * combined m x col k
combined_multiple zero f x col k = sym (mul-zero f)
combined_multiple (suc m) f x col k =
    ap (λ w. w + f * x m * col m k) (combined_multiple m f x col k)
    ∙ together f (combined m x col k) (x m) (col m k)
  where
    together : (f a x c : ℕ) → f * a + f * x * c ≡ f * (a + x * c)
    together f a x c = grind arith

-- with coefficients that agree modulo p
pub combined_agree : (p m : ℕ) (x y : ℕ → ℕ) (col : ℕ → ℕ → ℕ) (k : ℕ)
    → ((i : ℕ) → i < m → x i % p ≡ y i % p)
    → combined m x col k % p ≡ combined m y col k % p
combined_agree p m x y col k h =
    sum_agree p m (λ i. x i * col i k) (λ i. y i * col i k)
    (λ i l. ap (λ w. w % p) (mul_comm (x i) (col i k))
    ∙ mul_agree p (col i k) (x i) (y i) (h i l)
    ∙ ap (λ w. w % p) (mul_comm (col i k) (y i)))

-- with coefficients zero
pub combined_zero : (m : ℕ) (x : ℕ → ℕ) (col : ℕ → ℕ → ℕ) (k : ℕ) → ((i : ℕ) → i < m → x i ≡ 0)
    → combined m x col k ≡ 0
combined_zero m x col k h = sum_zero m (λ i. x i * col i k)
    (λ i l. ap (λ w. w * col i k) (h i l) ∙ zero-mul (col i k))

-- ---- rows with their coefficients noted
-- a column alone
pub column_noted : (w p m : ℕ) (col : ℕ → ℕ → ℕ) (column : List ℕ) (r : ℕ → ℕ)
    → length column + m ≤ w → ((k : ℕ) → k < w → r k ≡ slice_index column k)
    → IsNoted w p (length column) m col (slice_index column) r
column_noted w p m col column r fits h = record {
  combination = λ k l.
      let none = combined_zero m (λ i. r (length column + i)) col k
      (λ i li. h (length column + i) (omega arith)
      ∙ get_or_past column (length column + i) 0 (omega arith)) in
      ap (λ w. w % p) (h k (omega arith))
      ∙ ap (λ w. w % p) (sym (add-zero (slice_index column k))
      ∙ ap (λ w. slice_index column k + w) (sym none));
  rest = λ i l li. h (length column + i) li
      ∙ get_or_past column (length column + i) 0 (omega arith);
}

-- with a multiple of a row of the table
pub noted_more : (w p n m f : ℕ) (col : ℕ → ℕ → ℕ) (v r b s : ℕ → ℕ) → n + m ≤ w
    → IsNoted w p n m col v r → IsNoted w p n m col (λ k. 0) b
    → ((k : ℕ) → k < w → s k ≡ (r k + f * b k) % p) → IsNoted w p n m col v s
noted_more w p n m f col v r b s fits R B h = record {
  combination = λ k l.
      let cr = combined m (λ i. r (n + i)) col k in
      let cb = combined m (λ i. b (n + i)) col k in
      ap (λ w. w % p) (h k (omega arith)) ∙ mod-mod (r k + f * b k) p
      ∙ add_agree p (r k) (f * b k) (v k + cr) (f * (0 + cb)) (R.combination k l)
      (mul_agree p f (b k) (0 + cb) (B.combination k l))
      ∙ ap (λ w. w % p) (regroup (v k) cr f cb
      ∙ ap (λ w. v k + w) (sym (combined_sum m f (λ i. r (n + i)) (λ i. b (n + i)) col k)))
      ∙ add_agree p (v k) (combined m (λ i. r (n + i) + f * b (n + i)) col k) (v k)
      (combined m (λ i. s (n + i)) col k) refl
      (combined_agree p m (λ i. r (n + i) + f * b (n + i)) (λ i. s (n + i)) col k
      (λ i li. sym (ap (λ w. w % p) (h (n + i) (omega arith))
      ∙ mod-mod (r (n + i) + f * b (n + i)) p)));
  rest = λ i l li. h (n + i) li
      ∙ ap (λ w. w % p) (ap₂ (λ x y. x + f * y) (R.rest i l li) (B.rest i l li)
      ∙ ap (λ w. 0 + w) (mul-zero f) ∙ add-zero 0)
      ∙ zero-mod p;
}
  where
    regroup : (v c f b : ℕ) → v + c + f * (0 + b) ≡ v + (c + f * b)
    regroup v c f b = ap (λ w. v + c + f * w) (zero-add b) ∙ (omega arith)

-- ---- a column is reduced by one row after another
pub record IsReducing (w p n m : ℕ) (col : ℕ → ℕ → ℕ) (pivots : List ℕ) (i : ℕ) (v r : ℕ → ℕ)
    : Type 0 where
  pub noted : IsNoted w p n m col v r
  pub zero_below : (j : ℕ) → j < i → r (slice_index pivots j) ≡ 0

cancelled : (p x : ℕ) → x < p → (x + (p - x) % p * 1) % p ≡ 0
cancelled p x l =
    let whole : x + (p - x) ≡ p = omega arith in
    ap (λ w. (x + w) % p) (mul-one ((p - x) % p)) ∙ add-mod-mod x (p - x) p
    ∙ ap (λ w. w % p) whole ∙ mod_self p

-- **one row more**
pub one_reducing : (w p n m i : ℕ) (col : ℕ → ℕ → ℕ) (rows : List (List ℕ)) (pivots : List ℕ)
    (v r s : ℕ → ℕ) → i < length pivots → IsSpan w p n m col rows pivots
    → r (slice_index pivots i) < p
    → ((k : ℕ) → k < w → s k ≡ (r k + (p - r (slice_index pivots i)) % p
    * slice_index (slice_index_or rows i []) k) % p)
    → IsReducing w p n m col pivots i v r → IsReducing w p n m col pivots (i + 1) v s
one_reducing w p n m i col rows pivots v r s l S below h R =
    let f = (p - r (slice_index pivots i)) % p in
    let b = slice_index (slice_index_or rows i []) in
    let fits : n + m ≤ w = S.fits in
    record {
      noted = noted_more w p n m f col v r b s fits R.noted (S.noted i l) h;
      zero_below = λ j lj.
          let within : slice_index pivots j < n = S.within j (omega arith) in
          h (slice_index pivots j) (omega arith) ∙ ⊎_elim
          (λ e. ap (λ q. (r (slice_index pivots q) + f * b (slice_index pivots q)) % p) e
          ∙ ap (λ y. (r (slice_index pivots i) + f * y) % p) (S.one i l)
          ∙ cancelled p (r (slice_index pivots i)) below)
          (λ d. let lower : j < i = omega arith in
          ap₂ (λ x y. (x + f * y) % p) (R.zero_below j lower) (S.before j i lower l)
          ∙ ap (λ y. (0 + y) % p) (mul-zero f) ∙ ap (λ y. y % p) (add-zero 0) ∙ zero-mod p)
          (cases_eq j i);
    }

-- ---- what the reduced column tells
-- one column more in a combination
dropped : (a q s b c : ℕ) → a + s * q * b + s * (c + b) ≡ a + s * c + s * b * suc q
dropped a q s b c = grind arith

shifted : (w p n m : ℕ) (col : ℕ → ℕ → ℕ) (r x : ℕ → ℕ) → 0 < p → IsNoted w p n m col (col m) r
    → (k : ℕ) → k < n
    → combined (suc m) x col k % p
    ≡ (combined m (λ i. x i + x m * (p - 1) * r (n + i)) col k + x m * r k) % p
shifted w p n m col r x positive R k l =
    let c = combined m (λ i. r (n + i)) col k in
    let q = p - 1 in
    let more : suc q ≡ p = omega arith in
    sym (ap (λ w. (w + x m * r k) % p) (combined_sum m (x m * q) x (λ i. r (n + i)) col k)
    ∙ add_agree p (combined m x col k + x m * q * c) (x m * r k)
    (combined m x col k + x m * q * c) (x m * (col m k + c)) refl
    (mul_agree p (x m) (r k) (col m k + c) (R.combination k l))
    ∙ ap (λ w. w % p) (dropped (combined m x col k) q (x m) c (col m k)
    ∙ ap (λ w. combined m x col k + x m * col m k + x m * c * w) more)
    ∙ add-mul-mod_self_right (combined m x col k + x m * col m k) (x m * c) p)

-- **a column that isn't zero when reduced is no combination**
pub reduced_independent : (w p n m : ℕ) (col : ℕ → ℕ → ℕ) (rows : List (List ℕ)) (pivots : List ℕ)
    (v r : ℕ → ℕ) (s : ℕ) → IsSpan w p n m col rows pivots
    → IsReduced w p n m col pivots v r → s < n → r s < p → r s ≢ 0 → InSpan p n m col v → ⊥
reduced_independent w p n m col rows pivots v r s S R l below other (x, h) =
    let y : ℕ → ℕ = λ i. x i + 1 * r (n + i) in
    let is : (k : ℕ) → k < n → combined m y col k % p ≡ r k % p =
    λ k lk. ap (λ w. w % p) (combined_sum m 1 x (λ i. r (n + i)) col k
    ∙ ap (λ w. combined m x col k + w) (mul_comm 1 (combined m (λ i. r (n + i)) col k)
    ∙ mul-one (combined m (λ i. r (n + i)) col k)))
    ∙ add_agree p (combined m x col k) (combined m (λ i. r (n + i)) col k) (v k)
    (combined m (λ i. r (n + i)) col k) (sym (h k lk)) refl
    ∙ sym (R.noted.combination k lk) in
    other (sym (mod-eq_of_lt below) ∙ sym (is s l)
    ∙ S.detects y (λ i li. is (slice_index pivots i) (S.within i li)
    ∙ ap (λ w. w % p) (R.zero i li) ∙ zero-mod p) s l)

-- ---- one column more
-- a row of the table with one column more
noted_with : (w p n m : ℕ) (col : ℕ → ℕ → ℕ) (b : ℕ → ℕ) → n + m < w
    → IsNoted w p n m col (λ k. 0) b → IsNoted w p n (suc m) col (λ k. 0) b
noted_with w p n m col b fits B = record {
  combination = λ k l. B.combination k l
      ∙ ap (λ w. w % p) (ap (λ w. 0 + w) (sym (ap (λ w. combined m (λ i. b (n + i)) col k + w)
      (ap (λ w. w * col m k) (B.rest m (omega arith) fits) ∙ zero-mul (col m k))
      ∙ add-zero (combined m (λ i. b (n + i)) col k))));
  rest = λ i l li. B.rest i (omega arith) li;
}

-- **a column that is zero when reduced**
pub column_skipped : (w p n m : ℕ) (col : ℕ → ℕ → ℕ) (rows : List (List ℕ)) (pivots : List ℕ)
    (r : ℕ → ℕ) → 0 < p → n + m < w → IsSpan w p n m col rows pivots
    → IsReduced w p n m col pivots (col m) r → ((k : ℕ) → k < n → r k ≡ 0)
    → IsSpan w p n (suc m) col rows pivots
column_skipped w p n m col rows pivots r positive fits S R none =
    let same : (x : ℕ → ℕ) (k : ℕ) → k < n → combined (suc m) x col k % p
    ≡ combined m (λ i. x i + x m * (p - 1) * r (n + i)) col k % p =
    λ x k l. shifted w p n m col r x positive R.noted k l
    ∙ ap (λ w. w % p) (ap (λ w. combined m (λ i. x i + x m * (p - 1) * r (n + i)) col k + w)
    (ap (λ w. x m * w) (none k l) ∙ mul-zero (x m))
    ∙ add-zero (combined m (λ i. x i + x m * (p - 1) * r (n + i)) col k)) in
    record {
      fits = omega arith;
      within = S.within;
      noted = λ i l. noted_with w p n m col (slice_index (slice_index_or rows i [])) fits
          (S.noted i l);
      one = S.one;
      before = S.before;
      detects = λ x h k l. same x k l
          ∙ S.detects (λ i. x i + x m * (p - 1) * r (n + i))
          (λ i li. sym (same x (slice_index pivots i) (S.within i li)) ∙ h i li) k l;
    }

-- a normal row is a combination of one column more
normal_noted : (w p n m : ℕ) (col : ℕ → ℕ → ℕ) (pivot place : ℕ) (row new : List ℕ)
    → place ≡ n + m → n + m < w → IsNormal w p pivot place row new
    → IsNoted w p n m col (col m) (slice_index row)
    → IsNoted w p n (suc m) col (λ k. 0) (slice_index new)
normal_noted w p n m col pivot place row new is fits N R = record {
  combination = λ k l.
      let u = N.factor in
      let c = combined m (λ i. slice_index row (n + i)) col k in
      let other : k ≢ place = λ e. absurd (omega arith) in
      ap (λ y. y % p) (N.places k (omega arith) other) ∙ mod-mod (u * slice_index row k) p
      ∙ mul_agree p u (slice_index row k) (col m k + c) (R.combination k l)
      ∙ ap (λ y. y % p) (spread u (col m k) c
      ∙ ap (λ y. y + u * col m k)
      (sym (combined_multiple m u (λ i. slice_index row (n + i)) col k)))
      ∙ add_agree p (combined m (λ i. u * slice_index row (n + i)) col k) (u * col m k)
      (combined m (λ i. slice_index new (n + i)) col k) (slice_index new (n + m) * col m k)
      (combined_agree p m (λ i. u * slice_index row (n + i)) (λ i. slice_index new (n + i)) col k
      (λ i li. let apart : n + i ≢ place = λ e. absurd (omega arith) in
      sym (ap (λ y. y % p) (N.places (n + i) (omega arith) apart)
      ∙ mod-mod (u * slice_index row (n + i)) p)))
      (ap (λ y. y % p) (mul_comm u (col m k))
      ∙ mul_agree p (col m k) u (slice_index new (n + m))
      (sym (ap (λ q. slice_index new q % p) (sym is) ∙ N.at_place))
      ∙ ap (λ y. y % p) (mul_comm (col m k) (slice_index new (n + m))))
      ∙ ap (λ y. y % p) (sym (zero-add (combined m (λ i. slice_index new (n + i)) col k
      + slice_index new (n + m) * col m k)));
  rest = λ i l li.
      let apart : n + i ≢ place = λ e. absurd (omega arith) in
      N.places (n + i) li apart
      ∙ ap (λ y. (N.factor * y) % p) (R.rest i (omega arith) li)
      ∙ ap (λ y. y % p) (mul-zero N.factor) ∙ zero-mod p;
}
  where
    spread : (u c s : ℕ) → u * (c + s) ≡ u * s + u * c
    spread u c s = grind arith

-- ---- the table with one row more
module _ (rows : List (List ℕ)) (pivots : List ℕ) (new : List ℕ) (pivot : ℕ)
    (room : length pivots < length rows) where
  abbrev table : List (List ℕ)
  table = slice_set rows (length pivots) new

  abbrev places : List ℕ
  places = pivots ++ pivot ∷ []

  length_places : length (pivots ++ pivot ∷ []) ≡ suc (length pivots)
  length_places = length-append pivots (pivot ∷ []) ∙ (omega arith)

  old_row : (i : ℕ) → i < length pivots
      → slice_index_or (slice_set rows (length pivots) new) i [] ≡ slice_index_or rows i []
  old_row i l = get_or-set_other rows (length pivots) i new [] (λ e. absurd (omega arith))

  new_row : slice_index_or (slice_set rows (length pivots) new) (length pivots) [] ≡ new
  new_row = get_or-set_same rows (length pivots) new [] room

  old_place : (i : ℕ) → i < length pivots
      → slice_index (pivots ++ pivot ∷ []) i ≡ slice_index pivots i
  old_place i l = get_or_append_left pivots (pivot ∷ []) 0 i l

  new_place : slice_index (pivots ++ pivot ∷ []) (length pivots) ≡ pivot
  new_place = get_or_push pivots pivot 0 (length pivots) refl

  -- each row is an old one or the new one
  by_rows : (T : List ℕ → ℕ → Type 0)
      → ((i : ℕ) → i < length pivots → T (slice_index_or rows i []) (slice_index pivots i))
      → T new pivot → (i : ℕ) → i < length (pivots ++ pivot ∷ [])
      → T (slice_index_or (slice_set rows (length pivots) new) i [])
      (slice_index (pivots ++ pivot ∷ []) i)
  by_rows T old now i l = ⊎_elim
      (λ e. subst (λ q. T (slice_index_or table q []) (slice_index places q)) (sym e)
      (subst (λ z. T z (slice_index places (length pivots))) (sym new_row)
      (subst (λ z. T new z) (sym new_place) now)))
      (λ d. let lower : i < length pivots = omega (arith, length_places) in
      subst (λ z. T z (slice_index places i)) (sym (old_row i lower))
      (subst (λ z. T (slice_index_or rows i []) z) (sym (old_place i lower)) (old i lower)))
      (cases_eq i (length pivots))

-- **a column that isn't zero when reduced**
pub column_inserted : (w p n m : ℕ) (col : ℕ → ℕ → ℕ) (rows : List (List ℕ)) (pivots : List ℕ)
    (row new : List ℕ) (pivot place : ℕ) → 1 < p → place ≡ n + m → n + m < w → pivot < n
    → length pivots < length rows → IsSpan w p n m col rows pivots
    → IsReduced w p n m col pivots (col m) (slice_index row)
    → IsNormal w p pivot place row new
    → IsSpan w p n (suc m) col (slice_set rows (length pivots) new) (pivots ++ pivot ∷ [])
column_inserted w p n m col rows pivots row new pivot place above is fits lp room S R N =
    let u = N.factor in
    let r = slice_index row in
    let positive : 0 < p = omega arith in
    let y : (ℕ → ℕ) → ℕ → ℕ = λ x i. x i + x m * (p - 1) * r (n + i) in
    let small : (i : ℕ) → i < length pivots → slice_index pivots i < n = S.within in
    let apart : (k : ℕ) → k < n → k ≢ place = λ k l e. absurd (omega arith) in
    record {
      fits = omega arith;
      within = by_rows rows pivots new pivot room (λ z q. q < n) small lp;
      noted = by_rows rows pivots new pivot room
          (λ z q. IsNoted w p n (suc m) col (λ k. 0) (slice_index z))
          (λ i l. noted_with w p n m col (slice_index (slice_index_or rows i [])) fits (S.noted i l))
          (normal_noted w p n m col pivot place row new is fits N R.noted);
      one = by_rows rows pivots new pivot room (λ z q. slice_index z q ≡ 1) S.one
          (N.places pivot (omega arith) (apart pivot lp)
          ∙ ap (λ z. z % p) (mul_comm u (r pivot)) ∙ N.inverse);
      before = λ i j l lj.
          let li : i < length pivots = omega (arith, length_places rows pivots new pivot room) in
          ap (λ q. slice_index (slice_index_or (slice_set rows (length pivots) new) j []) q)
          (old_place rows pivots new pivot room i li)
          ∙ ⊎_elim
          (λ e. ap (λ q. slice_index (slice_index_or (slice_set rows (length pivots) new) q [])
          (slice_index pivots i)) e
          ∙ ap (λ z. slice_index z (slice_index pivots i)) (new_row rows pivots new pivot room)
          ∙ N.places (slice_index pivots i) (let b = small i li in omega arith)
          (apart (slice_index pivots i) (small i li))
          ∙ ap (λ z. (u * z) % p) (R.zero i li) ∙ ap (λ z. z % p) (mul-zero u) ∙ zero-mod p)
          (λ d. let lower : j < length pivots =
          omega (arith, length_places rows pivots new pivot room) in
          ap (λ z. slice_index z (slice_index pivots i)) (old_row rows pivots new pivot room j lower)
          ∙ S.before i j l lower)
          (cases_eq j (length pivots));
      detects = λ x h k l.
          let longer = length_places rows pivots new pivot room in
          let old : (i : ℕ) → i < length pivots
          → combined (suc m) x col (slice_index pivots i) % p ≡ 0 =
          λ i li. ap (λ q. combined (suc m) x col q % p)
          (sym (old_place rows pivots new pivot room i li)) ∙ h i (omega (arith, longer)) in
          let now : combined (suc m) x col pivot % p ≡ 0 =
          ap (λ q. combined (suc m) x col q % p) (sym (new_place rows pivots new pivot room))
          ∙ h (length pivots) (omega (arith, longer)) in
          let alone : (k : ℕ) → k < n → combined m (y x) col k % p ≡ 0 =
          S.detects (y x) (λ i li. sym (shifted w p n m col r x positive R.noted
          (slice_index pivots i) (small i li)
          ∙ ap (λ z. z % p) (ap (λ z. combined m (y x) col (slice_index pivots i) + z)
          (ap (λ z. x m * z) (R.zero i li) ∙ mul-zero (x m))
          ∙ add-zero (combined m (y x) col (slice_index pivots i)))) ∙ old i li) in
          let multiple : (k : ℕ) → k < n → combined (suc m) x col k % p ≡ (x m * r k) % p =
          λ k l. shifted w p n m col r x positive R.noted k l
          ∙ add_agree p (combined m (y x) col k) (x m * r k) 0 (x m * r k)
          (alone k l ∙ sym (zero-mod p)) refl
          ∙ ap (λ z. z % p) (zero-add (x m * r k)) in
          let vanishes : x m % p ≡ 0 =
          ap (λ z. z % p) (sym (mul-one (x m)))
          ∙ mul_agree p (x m) 1 (r pivot * u) (mod-eq_of_lt above ∙ sym N.inverse)
          ∙ ap (λ z. z % p) (regroup (x m) (r pivot) u)
          ∙ mul_agree p u (x m * r pivot) 0 (sym (multiple pivot lp) ∙ now ∙ sym (zero-mod p))
          ∙ ap (λ z. z % p) (mul-zero u) ∙ zero-mod p in
          multiple k l ∙ ap (λ z. z % p) (mul_comm (x m) (r k))
          ∙ mul_agree p (r k) (x m) 0 (vanishes ∙ sym (zero-mod p))
          ∙ ap (λ z. z % p) (mul-zero (r k)) ∙ zero-mod p;
    }
  where
    regroup : (x r u : ℕ) → x * (r * u) ≡ u * (x * r)
    regroup x r u = grind arith

-- ---- the table without rows
pub empty_span : (w p n : ℕ) (col : ℕ → ℕ → ℕ) (rows : List (List ℕ)) → n ≤ w
    → IsSpan w p n 0 col rows []
empty_span w p n col rows l = record {
  fits = omega arith;
  within = λ i li. absurd (omega arith);
  noted = λ i li. absurd (omega arith);
  one = λ i li. absurd (omega arith);
  before = λ i j li lj. absurd (omega arith);
  detects = λ x h k lk. zero-mod p;
}

-- what is reduced depends on the places of the column alone
pub reduced_same : (w p n m : ℕ) (col : ℕ → ℕ → ℕ) (pivots : List ℕ) (v u r : ℕ → ℕ)
    → ((k : ℕ) → k < n → v k ≡ u k) → IsReduced w p n m col pivots v r
    → IsReduced w p n m col pivots u r
reduced_same w p n m col pivots v u r h R = record {
  noted = record {
    combination = λ k l. R.noted.combination k l
        ∙ ap (λ y. (y + combined m (λ i. r (n + i)) col k) % p) (h k l);
    rest = R.noted.rest;
  };
  zero = R.zero;
}

-- **the column is reduced by all rows**
pub reducing_done : (w p n m : ℕ) (col : ℕ → ℕ → ℕ) (pivots : List ℕ) (i : ℕ) (v r s : ℕ → ℕ)
    → length pivots ≤ i → ((k : ℕ) → s k ≡ r k) → IsReducing w p n m col pivots i v r
    → IsReduced w p n m col pivots v s
reducing_done w p n m col pivots i v r s all same R =
    let equal : r ≡ s = λ j k. sym (same k) j in
    subst (IsReduced w p n m col pivots v) equal
    (record { noted = R.noted; zero = λ j l. R.zero_below j (omega arith) })

-- a normal row, by its places
pub normal_is : (w p pivot place : ℕ) (row new : List ℕ) (factor : ℕ) → length row ≡ w → place < w
    → (slice_index row pivot * factor) % p ≡ 1
    → ((k : ℕ) → k < w → slice_index new k ≡ (factor * slice_index (slice_set row place 1) k) % p)
    → IsNormal w p pivot place row new
normal_is w p pivot place row new factor long l one h = record {
  factor = factor;
  inverse = one;
  at_place = ap (λ y. y % p) (h place l
      ∙ ap (λ y. (factor * y) % p) (get_or-set_same row place 1 0 (omega arith))
      ∙ ap (λ y. y % p) (mul-one factor)) ∙ mod-mod factor p;
  places = λ k lk other. h k lk
      ∙ ap (λ y. (factor * y) % p) (get_or-set_other row place k 1 0 other);
}
