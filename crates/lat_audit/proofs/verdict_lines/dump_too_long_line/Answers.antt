-- The limit in decimal stands in the line.
use Rattle.std.proofs.Common.{◌≡◌, ℕ, ◌/◌, ◌%◌, ◌+◌, ◌<◌, ◌≤◌, ◌^◌, List, [], ◌∷◌, ◌++◌, sym, ap, ◌∙◌, lit<, lit≤}
use Rattle.std.specs.Prelude.{codes, decimal}
use Rattle.std.proofs.lemmas.Fmt.{decimal_digit, decimal_step}
use Rattle.lat_audit.specs.declared.verdict_lines.TheConstants.{MAX_DUMP}
use Rattle.lat_audit.proofs.verdict_lines.dump_too_long_line.Goals as goal

last_digit : (n : ℕ) (digits : List ℕ) → 10 ≤ n → n < 2 ^ 64 → decimal (n / 10) ≡ digits
    → decimal n ≡ digits ++ (48 + n % 10) ∷ []
last_digit n digits above fits e =
    decimal_step n above fits ∙ ap (λ ds. ds ++ (48 + n % 10) ∷ []) e

limit_in_decimal : decimal MAX_DUMP ≡ codes "8388608"
limit_in_decimal =
    last_digit 8388608 (codes "838860") (lit≤ tt) (lit< tt)
    (last_digit 838860 (codes "83886") (lit≤ tt) (lit< tt)
    (last_digit 83886 (codes "8388") (lit≤ tt) (lit< tt)
    (last_digit 8388 (codes "838") (lit≤ tt) (lit< tt)
    (last_digit 838 (codes "83") (lit≤ tt) (lit< tt)
    (last_digit 83 (codes "8") (lit≤ tt) (lit< tt) (decimal_digit 8 (lit< tt)))))))

pub returns : goal.returns
returns c = ap (λ digits. codes "bad dump longer than " ++ digits ++ codes " bytes\n") (sym limit_in_decimal)
