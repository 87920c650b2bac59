-- A word is one number.
use Rattle.std.proofs.Common.{◌≡◌, ◌≤◌, sym, ap, ◌∙◌, arith, eq-eqb}
use Rattle.std.specs.Prelude.{decimal}
use Rattle.std.proofs.lemmas.Bool.{eqb-true}
use Rattle.std.proofs.lemmas.Fmt.{decimal_injective}
use Rattle.lat_audit.proofs.line_forms.is_number.Goals as goal

pub returns-in-Some : goal.returns-in-Some
returns-in-Some c =
    let fits = c.ranges.number.fits in
    let bound = c.from.ensures in
    let other = c.from-in-Some.ensures in
    let read = c.in-Some.ensures in
    let below : c.in-Some.read ≤ c.args.number = omega (arith, bound, read.0) in (
      λ t. let same : c.in-Some.read ≡ c.args.number = omega (arith, eqb-true c.in-Some.read c.from-in-Some.result t, other) in
          read.1 ∙ ap decimal same,
      λ e. eq-eqb c.in-Some.read c.from-in-Some.result
          (let same : c.in-Some.read ≡ c.args.number = decimal_injective c.in-Some.read c.args.number (omega arith) (omega arith) (sym read.1 ∙ e) in
          omega (arith, same, other)),
    )
