-- No number is refused, and what is read is one.
use Rattle.std.proofs.Common.{◌+◌, ◌<◌, ◌^◌, sym, ap, ◌∙◌, subst, arith}
use Rattle.std.specs.Prelude.{decimal}
use Rattle.std.proofs.lemmas.Bool.{eqb-true}
use Rattle.lat_language.proofs.LinesAndWords.{some_from_test}
use Rattle.lat_language.proofs.Decimals.{number_not_empty, number_no_zero, number_digit, number_prefix, digit_more, value_more, number_whole}
use Rattle.lat_language.proofs.numbers.read_number.Goals as goal
use Rattle.lat_language.proofs.numbers.read_number.Goals.{then-is_empty-via-then-is_empty, then-is_empty-via-else-is_empty+then-has_leading_zero}

pub returns-then-is_empty : goal.returns-then-is_empty
returns-then-is_empty c = λ n l is.
    let small : n < 2 ^ 64 = omega arith in
    elim c.then-is_empty.branch [
      | then-is_empty-via-then-is_empty w ↦
          number_not_empty c.args.word.now n small is (eqb-true _ _ (sym c.is_empty.ensures ∙ w.if-is_empty.true))
      | then-is_empty-via-else-is_empty+then-has_leading_zero w ↦
          number_no_zero c.args.word.now n small is (sym w.has_leading_zero.ensures ∙ w.if-has_leading_zero.true)
    ]

pub returns-then-not-is_ascii_digit : goal.returns-then-not-is_ascii_digit
returns-then-not-is_ascii_digit c = λ n l is.
    number_digit c.args.word.now n (omega arith) is c.loop-digit.digit-index c.loop-digit-test.true c.if-not-is_ascii_digit.ensures.cases

pub returns-then-value-from : goal.returns-then-value-from
returns-then-value-from c = λ n l is.
    let small : n < 2 ^ 64 = omega arith in
    let i = c.loop-digit.digit-index in
    let more = value_more c.args.word.now i c.loop-digit.value c.loop-digit-test.true c.if-not-is_ascii_digit.ensures.cases c.loop-digit.invariant.value in
    omega (arith, more, number_prefix c.args.word.now n small is (i + 1), c.from.ensures, c.from-in-loop-digit.ensures)

pub loop-digit-preserved : goal.loop-digit-preserved
loop-digit-preserved c = record {
  digits = digit_more c.args.word.now c.loop-digit.digit-index c.loop-digit-test.true c.if-not-is_ascii_digit.ensures.cases c.loop-digit.invariant.digits;
  value = rw c.from.ensures (value_more c.args.word.now c.loop-digit.digit-index c.loop-digit.value c.loop-digit-test.true c.if-not-is_ascii_digit.ensures.cases c.loop-digit.invariant.value);
  small = omega arith;
}

pub returns : goal.returns
returns c =
    let some = some_from_test c.args.word.now _ c.is_empty.ensures c.if-is_empty.false in
    let no_zero = sym c.has_leading_zero.ensures ∙ c.if-has_leading_zero.false in
    let value = c.loop-digit.invariant.value in
    let small : c.loop-digit.value < 2 ^ 64 = omega arith in (
      c.loop-digit.invariant.small,
      number_whole c.args.word.now c.loop-digit.digit-index c.loop-digit-test.false c.loop-digit.invariant.digits some no_zero (subst (λ v. v < 2 ^ 64) value small)
          ∙ ap decimal (sym value),
    )
