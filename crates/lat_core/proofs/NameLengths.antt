-- Facts on names.
use Rattle.std.proofs.Common.{ℕ, ◌+◌, ◌≤◌, ◌<◌, List, [], ◌∷◌, length, ap, inl, inr, arith, refl, decimal, map, ◌^◌, lit≤}
use Rattle.std.specs.Prelude.{All}
use Rattle.std.specs.Int.Digits.{AllBelowBase, digits_of}
use Rattle.std.proofs.lemmas.List.Elements.{All-cons, All-nil}
use Rattle.std.proofs.lemmas.Int.Digits.{all_below_base_digits_of}
use Rattle.std.proofs.lemmas.Fmt.{length-decimal-le, decimal-digits_of}
use Rattle.lat_core.specs.declared.TheConstants.{MAX_FIELDS}
use Rattle.lat_core.specs.declared.names.TheConstants.{MAX_NAME}
use Rattle.lat_core.specs.Names.{IsNameByte, IsDeclaredName, IsFieldName}

declared_fits : (text : List ℕ) → IsDeclaredName text → length text ≤ MAX_NAME
declared_fits [] h = absurd h
declared_fits (b ∷ bs) h = omega (arith, h.2)

-- a name has at most MAX_NAME bytes
pub name_fits : (text : List ℕ) → IsFieldName text → length text ≤ MAX_NAME
name_fits text (inl h) = declared_fits text h
name_fits text (inr h) = omega (arith, ap length h.2, length-decimal-le 3 h.0 (omega arith) (omega (arith, h.1)) (omega (arith, h.1)))

-- `_` and the digits of a field's number
pub made_fits : (n : ℕ) → n < MAX_FIELDS → 1 + length (decimal n) ≤ MAX_NAME
made_fits n h = omega (arith, length-decimal-le 3 n (omega arith) (omega (arith, h)) (omega (arith, h)))

pub made_named : (n : ℕ) → n < MAX_FIELDS → IsFieldName (95 ∷ decimal n)
made_named n h = inr (n, h, refl)

-- ---- the name of a prime field
digits_named : (ds : List ℕ) → AllBelowBase 10 ds → All IsNameByte (map (λ d. 48 + d) ds)
digits_named [] h = All-nil IsNameByte
digits_named (d ∷ ds) h = All-cons IsNameByte (48 + d) (map (λ d. 48 + d) ds) (inl (inl (inl (omega arith, let b : d < 10 = h.0 in omega arith)))) (digits_named ds h.1)

short : (p : ℕ) → p < 64 → length (decimal p) ≤ 2
short p h = length-decimal-le 2 p (omega arith) (omega (arith, h)) (omega (arith, h))

pub prime_fits : (p : ℕ) → p < 64 → 1 + length (decimal p) ≤ MAX_NAME
prime_fits p h = omega (arith, short p h)

-- `F` and the digits of a prime
pub prime_named : (p : ℕ) → 1 < p → p < 64 → IsFieldName (70 ∷ decimal p)
prime_named p least h =
    let bytes : All IsNameByte (decimal p) =
    let positive : 0 < p = omega (arith, least) in let fits : p < 2 ^ 64 = omega (arith, h) in
    rw (decimal-digits_of p positive fits) (digits_named (digits_of 10 p) (all_below_base_digits_of 10 p (lit≤ tt))) in
    inl (inl (lit≤ tt, lit≤ tt), bytes, omega (arith, short p h))
