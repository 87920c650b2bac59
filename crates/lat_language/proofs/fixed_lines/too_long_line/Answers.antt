-- The limit in decimal stands in the line.
use Rattle.std.proofs.Common.{sym, ap, ◌++◌}
use Rattle.std.specs.Prelude.{codes}
use Rattle.lat_language.proofs.Decimals.{limit_in_decimal}
use Rattle.lat_language.proofs.fixed_lines.too_long_line.Goals as goal

pub returns : goal.returns
returns c = ap (λ digits. codes "bad script longer than " ++ digits ++ codes " bytes\n") (sym limit_in_decimal)
