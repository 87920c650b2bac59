-- No coefficient list is refused, and what is read is one.
use Rattle.std.proofs.Common.{◌<◌, ◌++◌, [], map, sym, ap, ◌∙◌}
use Rattle.std.specs.Prelude.{decimal}
use Rattle.std.proofs.lemmas.List.Elements.{All-push}
use Rattle.lat_language.specs.PrivateCoefficients.{not_digits, push_parts, pushed_last}
use Rattle.lat_language.proofs.ReadWords.{digits_made}
use Rattle.lat_language.proofs.digits.read_digits.Goals as goal

pub returns-in_err-push_number : goal.returns-in_err-push_number
returns-in_err-push_number c =
    let so_far = c.loop-part.invariant.parts in
    rw c.from_residual.ensures (not_digits c.args.word.now c.loop-part.numbers.items c.in-Some.part.now _
    (ap (λ r. map decimal c.loop-part.numbers.items ++ r) (sym c.in-Some.ensures.0) ∙ so_far) c.in_err-push_number.ensures)

pub loop-part-preserved : goal.loop-part-preserved
loop-part-preserved c =
    let pushed = c.in_ok-push_number.ensures in
    let so_far = c.loop-part.invariant.parts in
    record {
      parts = rw pushed.4 (push_parts c.loop-part.numbers.items c.in-Some.part.now _ _ pushed.0
          (ap (λ r. map decimal c.loop-part.numbers.items ++ r) (sym c.in-Some.ensures.0) ∙ so_far) pushed.2);
      small = rw pushed.4 (All-push (λ n. n < 256) c.loop-part.numbers.items pushed.0 c.loop-part.invariant.small pushed.1);
    }

pub returns-in_err-push_number-2 : goal.returns-in_err-push_number-2
returns-in_err-push_number-2 c =
    let so_far = c.loop-part.invariant.parts in
    rw c.from_residual-in_err-push_number-2.ensures (not_digits c.args.word.now c.loop-part.numbers.items c.loop-part.rest.now []
    (ap (λ r. map decimal c.loop-part.numbers.items ++ r) (sym c.in_default.ensures) ∙ so_far) c.in_err-push_number-2.ensures)

pub returns : goal.returns
returns c =
    let pushed = c.in_ok-push_number-2.ensures in
    let so_far = c.loop-part.invariant.parts in
    let xs = c.loop-part.numbers.items in
    let whole = pushed_last c.args.word.now xs c.loop-part.rest.now _ pushed.0 c.loop-part.invariant.small pushed.1 pushed.3 pushed.4
    (ap (λ r. map decimal xs ++ r) (sym c.in_default.ensures) ∙ so_far) pushed.2 in
    digits_made c.args.word.now _ _ c.of.result c.as_slice.ensures.value whole c.of.ensures
