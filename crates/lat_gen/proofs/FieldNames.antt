-- The names of generated fields.
use Rattle.std.proofs.Common.{ℕ, ◌+◌, ◌≤◌, ◌<◌, ◌^◌, List, [], ◌∷◌, length, arith, decimal, inl, lit<, lit≤}
use Rattle.std.specs.Prelude.{All}
use Rattle.std.specs.Str.Parse.{AllDigits}
use Rattle.std.proofs.lemmas.Fmt.{length-decimal-le, decimal_is_IsNumeral}
use Rattle.std.proofs.lemmas.Str.Parse.{digit_from_value}
use Rattle.std.proofs.lemmas.List.Elements.{All-nil, All-cons}
use Rattle.lat_core.specs.declared.names.TheConstants.{MAX_NAME}
use Rattle.lat_core.specs.Names.{IsNameByte, IsDeclaredName}

digits_named : (ds : List ℕ) → AllDigits 10 ds → All IsNameByte ds
digits_named [] h = All-nil IsNameByte
digits_named (d ∷ ds) h =
    let range = digit_from_value d h.0 in
    All-cons IsNameByte d ds (inl (inl (inl (omega (arith, range), omega (arith, range))))) (digits_named ds h.1)

-- a number has at most ten digits
pub digits_few : (n : ℕ) → n < 2 ^ 32 → length (decimal n) ≤ 10
digits_few n h = length-decimal-le 10 n (lit< tt) (omega (arith, h)) (omega (arith, h))

pub number_fits : (n : ℕ) → n < 2 ^ 32 → 1 + length (decimal n) ≤ MAX_NAME
number_fits n h = omega (arith, digits_few n h)

-- `G` and the digits of a number
pub field_named : (n : ℕ) → n < 2 ^ 32 → IsDeclaredName (71 ∷ decimal n)
field_named n h = (inl (lit≤ tt, lit≤ tt), digits_named (decimal n) (decimal_is_IsNumeral n (omega (arith, h))).0.1, omega (arith, digits_few n h))
