-- One more number, after a comma if it isn't the first.
use Rattle.std.proofs.Common.{◌++◌, sym, ap, ◌∙◌}
use Rattle.std.proofs.lemmas.List.{append-nil}
use Rattle.std.specs.Prelude.{decimal}
use Rattle.lat_language.proofs.AppendedTexts.{digits_text_none, digits_text_more, twice_more}
use Rattle.lat_audit.proofs.lines.put_numbers.Goals as goal

pub loop-i-init : goal.loop-i-init
loop-i-init c = sym (ap (λ t. c.args.out.now.items ++ t) digits_text_none ∙ append-nil c.args.out.now.items)

pub loop-i-preserved : goal.loop-i-preserved
loop-i-preserved c =
    let more = digits_text_more c.args.numbers.now c.loop-i.i c.loop-i-test.true in
    rw more (twice_more c.args.out.now.items _ _ _ _ _ _ c.loop-i.invariant c.in_ok-put_separator.ensures
    (c.in_ok-put_number.ensures ∙ ap (λ k. c.put_separator.new.out.items ++ decimal k) c.from.ensures))
