-- One more word, after a space if it isn't the first, and a line feed after all of them.
use Rattle.std.proofs.Common.{◌++◌, map, sym, ap, ◌∙◌}
use Rattle.std.proofs.lemmas.List.{append-nil, take_all}
use Rattle.std.proofs.lemmas.Result.{IfOk-equal}
use Rattle.lat_language.specs.PrivateAppending.{piece_text}
use Rattle.lat_language.proofs.AppendedTexts.{words_more, twice_more, line_ended}
use Rattle.lat_language.proofs.appending.append_line.Goals as goal

pub loop-i-init : goal.loop-i-init
loop-i-init c = sym (append-nil c.args.out.now.items)

pub loop-i-preserved : goal.loop-i-preserved
loop-i-preserved c =
    let more = words_more piece_text c.args.words.now c.loop-i.i c.index-words-i.result c.loop-i-test.true in
    rw more (twice_more c.args.out.now.items _ _ _ _ _ _ c.loop-i.invariant c.in_ok-put_separator.ensures.ok
    (c.in_ok-put.ensures.ok ∙ ap (λ w. c.put_separator.new.out.items ++ piece_text w) c.index-words-i.is))

pub returns : goal.returns
returns c = IfOk-equal c.put_text.result _ _ _ c.put_text.ensures.ok (line_ended c.args.out.now.items c.loop-i.out.items _ (map piece_text c.args.words.now) (ap (map piece_text) (take_all c.loop-i.i c.args.words.now c.loop-i-test.false)) c.loop-i.invariant)
