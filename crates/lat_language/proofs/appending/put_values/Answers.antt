-- One more value, after a semicolon if it isn't the first.
use Rattle.std.proofs.Common.{◌++◌, sym, ap, ◌∙◌}
use Rattle.std.proofs.lemmas.List.{append-nil}
use Rattle.lat_language.specs.Commands.{digits_text}
use Rattle.lat_language.proofs.AppendedTexts.{values_text_none, values_text_more, twice_more}
use Rattle.lat_language.proofs.appending.put_values.Goals as goal

pub loop-i-init : goal.loop-i-init
loop-i-init c = sym (ap (λ t. c.args.out.now.items ++ t) values_text_none ∙ append-nil c.args.out.now.items)

pub loop-i-preserved : goal.loop-i-preserved
loop-i-preserved c =
    let more = values_text_more c.args.values.now c.loop-i.i c.index-values-i.result c.loop-i-test.true in
    rw more (twice_more c.args.out.now.items _ _ _ _ _ _ c.loop-i.invariant c.in_ok-put_separator.ensures.ok
    (c.in_ok-put_numbers.ensures.ok
    ∙ ap (λ v. c.put_separator.new.out.items ++ digits_text v) (c.digits.ensures.value ∙ c.index-values-i.is)))
