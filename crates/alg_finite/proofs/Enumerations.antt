-- Finite types by the numbers of their members.
--     Enumeration A n     A has n members, with the numbers below n
--     Repeats f n         f takes one value at two numbers below n
use Rattle.std.proofs.Common.{◌≡◌, ◌≢◌, ◌⊎◌, ⊎_elim, inl, inr, ℕ, zero, suc, ◌+◌, ◌*◌, ◌/◌, ◌%◌, ◌^◌, ◌<◌, ◌≤◌, List, [], ◌∷◌, length, refl, ap, ap₂, sym, ◌∙◌, arith, pow-suc, mod-lt, eq-or-lt_of_le}
use Rattle.std.proofs.Math.Nat.{pow-zero, mul_comm, add-mul-mod_self_left, add-mul-div_left, mul-le-mul_left, mod-add-div, div-lt_iff_lt-mul, mod-eq_of_lt, div-eq_of_lt}
use Rattle.alg_rings.proofs.Decisions.{Least, search_below}

pub record Enumeration (A : Type 0) (n : ℕ) : Type 0 where
  pub at : ℕ → A
  pub index : A → ℕ
  pub index_below : (a : A) → index a < n
  pub at_index : (a : A) → at (index a) ≡ a
  pub index_at : (i : ℕ) → i < n → index (at i) ≡ i

pub record Repeats {A : Type 0} (f : ℕ → A) (n : ℕ) : Type 0 where
  pub first : ℕ
  pub second : ℕ
  pub rising : first < second
  pub within : second < n
  pub same : f first ≡ f second

-- f takes different values at the numbers below n
abbrev pub Distinct : {A : Type 0} → (ℕ → A) → ℕ → Type 0
Distinct f n = (i j : ℕ) → i < j → j < n → f i ≢ f j

-- the members of an enumeration are different
pub members_distinct : {A : Type 0} {n : ℕ} (M : Enumeration A n) → Distinct M.at n
members_distinct M i j l h e =
    let s : i ≡ j = sym (M.index_at i (omega arith)) ∙ ap M.index e ∙ M.index_at j h in omega arith

-- f is distinct below n, or repeats itself
pub repeats_or_distinct : {A : Type 0} → ((x y : A) → (x ≡ y) ⊎ (x ≢ y)) → (f : ℕ → A) (n : ℕ)
    → Repeats f n ⊎ Distinct f n
repeats_or_distinct decide f zero = inr (λ i j l h e. omega arith)
repeats_or_distinct decide f (suc n) = ⊎_elim
    (λ r. inl (record {
      first = r.first;
      second = r.second;
      rising = r.rising;
      within = omega (arith, r.within);
      same = r.same;
    }))
    (λ d. ⊎_elim
    (λ (g : Least (λ i. f i ≡ f n) n). inl (record {
      first = g.number;
      second = n;
      rising = g.below;
      within = omega arith;
      same = g.holds;
    }))
    (λ none. inr (λ i j l h e. ⊎_elim
    (λ s. none i (omega arith) (e ∙ ap f s))
    (λ m. d i j l m e) (eq-or-lt_of_le (let m : j ≤ n = omega arith in m))))
    (search_below (λ i. f i ≡ f n) n (λ i l. decide (f i) (f n))))
    (repeats_or_distinct decide f n)

-- ---- lists of d members, by the digits of a number in base q
module _ {A : Type 0} {q : ℕ} (M : Enumeration A q) where
  -- the members at the d lowest digits of i in base q
  pub digits : ℕ → ℕ → List A
  digits zero i = []
  digits (suc d) i = M.at (i % q) ∷ digits d (i / q)

  -- the number whose digits are the numbers of the members
  pub number : List A → ℕ
  number [] = 0
  number (x ∷ xs) = M.index x + q * number xs

  -- there are d digits
  pub length_digits : (d i : ℕ) → length (digits d i) ≡ d
  unfolding digits
  length_digits zero i = refl
  length_digits (suc d) i = ap suc (length_digits d (i / q))

  -- a number of n digits is below q^n
  pub number_below : (xs : List A) → number xs < q ^ length xs
  unfolding number
  number_below [] = omega (arith, pow-zero q)
  number_below (x ∷ xs) =
      let l : number xs < q ^ length xs = number_below xs in
      let m : q * suc (number xs) ≤ q * q ^ length xs = mul-le-mul_left q l in
      omega (arith, M.index_below x, m, pow-suc q (length xs), mul_comm q (q ^ length xs))

  -- a list is the digits of its number
  pub digits_number : (xs : List A) → digits (length xs) (number xs) ≡ xs
  unfolding digits number
  digits_number [] = refl
  digits_number (x ∷ xs) =
      let l : M.index x < q = M.index_below x in
      ap₂ ◌∷◌
      (ap M.at (add-mul-mod_self_left (M.index x) q (number xs) ∙ mod-eq_of_lt l) ∙ M.at_index x)
      (ap (digits (length xs))
      (add-mul-div_left (M.index x) (number xs) (omega arith)
      ∙ ap (λ t. t + number xs) (div-eq_of_lt l) ∙ omega arith)
      ∙ digits_number xs)

  -- a number below q^d is that of its d digits
  pub number_digits : (d i : ℕ) → 0 < q → i < q ^ d → number (digits d i) ≡ i
  unfolding digits number
  number_digits zero i p l = omega (arith, pow-zero q)
  number_digits (suc d) i p l =
      let m : i < q ^ d * q = omega (arith, pow-suc q d) in
      ap₂ (λ s t. s + q * t) (M.index_at (i % q) (mod-lt i p))
      (number_digits d (i / q) p ((div-lt_iff_lt-mul p).1 m))
      ∙ mod-add-div i q
