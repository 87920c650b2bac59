-- One more word, after a space if it isn't the first, and a line feed after all of them.
use Rattle.std.proofs.Common.{map, sym, ap}
use Rattle.std.proofs.lemmas.List.{append-nil, take_all}
use Rattle.std.proofs.lemmas.Result.{IfOk-equal}
use Rattle.lat_audit.specs.PrivateDumps.{word_text}
use Rattle.lat_language.proofs.AppendedTexts.{words_more, twice_more, line_ended}
use Rattle.lat_audit.proofs.lines.add_line.Goals as goal

pub loop-i-init : goal.loop-i-init
loop-i-init c = sym (append-nil c.args.out.now.items)

pub loop-i-preserved : goal.loop-i-preserved
loop-i-preserved c =
    let more = words_more word_text c.args.words.now c.loop-i.i _ c.loop-i-test.true in
    rw more (twice_more c.args.out.now.items _ _ _ _ _ _ c.loop-i.invariant c.in_ok-put_separator.ensures c.in_ok-put.ensures)

pub returns : goal.returns
returns c = IfOk-equal c.put_text.result _ _ _ c.put_text.ensures (line_ended c.args.out.now.items c.loop-i.out.items _ (map word_text c.args.words.now) (ap (map word_text) (take_all c.loop-i.i c.args.words.now c.loop-i-test.false)) c.loop-i.invariant)
