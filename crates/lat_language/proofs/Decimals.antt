-- Facts on numbers in decimal.
use Rattle.std.proofs.Common.{◌≡◌, ℕ, ◌+◌, ◌-◌, ◌*◌, ◌/◌, ◌%◌, ◌^◌, ◌<◌, ◌≤◌, true, false, eqb, ltb, List, [], ◌∷◌, ◌++◌, length, get_or, take, sym, ap, ◌∙◌, subst, inl, inr, arith, lit<, lit≤}
use Rattle.std.specs.Prelude.{◌&&◌, decimal, codes}
use Rattle.std.specs.Int.{IsInRange, IsOutOfRange}
use Rattle.std.specs.Str.Parse.{AllDigits, digits_value}
use Rattle.std.proofs.lemmas.Fmt.{decimal_is_IsNumeral, first_decimal, decimal_digit, decimal_step, decimal_nonempty, decimal-digits_value}
use Rattle.std.proofs.lemmas.Str.{digit_value_digit}
use Rattle.std.proofs.lemmas.Str.Parse.{digit_at, numerals_by_value, tells_digits, digits_value-take-le}
use Rattle.std.proofs.lemmas.Int.Digits.{digits_more, digits_value_more}
use Rattle.std.proofs.lemmas.List.{take_all}
use Rattle.lat_language.specs.declared.scripts.TheConstants.{MAX_SCRIPT}
use Rattle.std.proofs.lemmas.Bool.{and_parts, and_cases, ltb-true, ltb-false, eqb-true, eqb-false, cases_order}

module _ (word : List ℕ) (n : ℕ) (small : n < 2 ^ 64) (is : word ≡ decimal n) where
  -- a number in decimal has a digit
  pub number_not_empty : length word ≡ 0 → ⊥
  number_not_empty e = omega (arith, decimal_nonempty n small, ap length is)

  -- and no zero before others
  pub number_no_zero : (ltb 1 (length word) && eqb (get_or word 0 0) 48) ≡ true → ⊥
  number_no_zero t =
      let parts = and_parts (ltb 1 (length word)) (eqb (get_or word 0 0) 48) t in
      let long = ltb-true 1 (length word) parts.0 in
      let zero_first = eqb-true (get_or word 0 0) 48 parts.1 in
      elim (cases_order n 0) [
        | inl e ↦ omega (arith, ap length is, ap (λ k. length (decimal k)) e, ap length (decimal_digit 0 (omega arith)))
        | inr (inl l) ↦ omega arith
        | inr (inr l) ↦ omega (arith, first_decimal n l small, ap (λ w. get_or w 0 0) is)
      ]

  number_digits : AllDigits 10 word
  number_digits = subst (AllDigits 10) (sym is) (decimal_is_IsNumeral n small).0.1

  -- its bytes are digits
  pub number_digit : (i : ℕ) → i < length word → IsOutOfRange 48 57 (get_or word i 0) → ⊥
  number_digit i l (inl below) = omega (arith, digit_at word i number_digits l)
  number_digit i l (inr above) = omega (arith, digit_at word i number_digits l)

  -- its digits stand for it
  pub number_value : digits_value 10 word ≡ n
  number_value = ap (digits_value 10) is ∙ (decimal_is_IsNumeral n small).1

  -- its first digits stand for no larger number
  pub number_prefix : (i : ℕ) → digits_value 10 (take i word) ≤ n
  number_prefix i = omega (arith, digits_value-take-le 10 word i (omega arith), number_value)

-- one more digit
pub digit_more : (word : List ℕ) (i : ℕ) → i < length word → IsInRange 48 57 (get_or word i 0)
    → AllDigits 10 (take i word) → AllDigits 10 (take (i + 1) word)
digit_more word i l range digits = digits_more 10 word i l digits (omega (arith, digit_value_digit (get_or word i 0) range, range))

-- what the digits stand for, with one more
pub value_more : (word : List ℕ) (i value : ℕ) → i < length word → IsInRange 48 57 (get_or word i 0)
    → value ≡ digits_value 10 (take i word)
    → value * 10 + (get_or word i 0 - 48) ≡ digits_value 10 (take (i + 1) word)
value_more word i value l range e = omega (arith, digits_value_more 10 word i l, digit_value_digit (get_or word i 0) range, range)

-- digits without a zero before others are the number in decimal
pub number_whole : (word : List ℕ) (i : ℕ) → length word ≤ i → AllDigits 10 (take i word)
    → 0 < length word → (ltb 1 (length word) && eqb (get_or word 0 0) 48) ≡ false
    → digits_value 10 (take i word) < 2 ^ 64 → word ≡ decimal (digits_value 10 (take i word))
number_whole word i all digits some no_zero small =
    let e = take_all i word all in
    let first : get_or word 0 0 ≡ 48 → length word ≡ 1 = λ z. elim (and_cases (ltb 1 (length word)) (eqb (get_or word 0 0) 48) no_zero) [
      | inl f ↦ let short = ltb-false 1 (length word) f in omega arith
      | inr f ↦ absurd (eqb-false (get_or word 0 0) 48 f z)
    ] in
    rw e (sym (decimal-digits_value (numerals_by_value (AllDigits 10) tells_digits) word (subst (AllDigits 10) e digits) some first (subst (λ w. digits_value 10 w < 2 ^ 64) e small)))

-- ---- the greatest length of a script, in decimal
last_digit : (n : ℕ) (ds : List ℕ) → 10 ≤ n → n < 2 ^ 64 → decimal (n / 10) ≡ ds
    → decimal n ≡ ds ++ (48 + n % 10) ∷ []
last_digit n ds above fits e = decimal_step n above fits ∙ ap (λ ds. ds ++ (48 + n % 10) ∷ []) e

pub limit_in_decimal : decimal MAX_SCRIPT ≡ codes "1048576"
limit_in_decimal =
    last_digit 1048576 (codes "104857") (lit≤ tt) (lit< tt)
    (last_digit 104857 (codes "10485") (lit≤ tt) (lit< tt)
    (last_digit 10485 (codes "1048") (lit≤ tt) (lit< tt)
    (last_digit 1048 (codes "104") (lit≤ tt) (lit< tt)
    (last_digit 104 (codes "10") (lit≤ tt) (lit< tt)
    (last_digit 10 (codes "1") (lit≤ tt) (lit< tt) (decimal_digit 1 (lit< tt)))))))
