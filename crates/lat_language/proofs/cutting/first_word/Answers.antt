-- A text that doesn't begin with a space begins with its first word.
use Rattle.std.proofs.Common.{sym, ap, ◌∙◌, arith}
use Rattle.lat_language.specs.Grammar.{words_of}
use Rattle.lat_language.proofs.LinesAndWords.{words_none, first_word_taken, empty_from_test, some_from_test}
use Rattle.lat_language.proofs.cutting.first_word.Goals as goal

pub returns-then-is_empty : goal.returns-then-is_empty
returns-then-is_empty c =
    sym c.without_spaces_before-text.ensures.words ∙ ap words_of (empty_from_test _ _ c.is_empty.ensures c.if-is_empty.true) ∙ words_none

pub returns : goal.returns
returns c =
    let some = some_from_test c.without_spaces_before-text.result.now _ c.is_empty.ensures c.if-is_empty.false in
    let taken = first_word_taken _ _ _ some c.without_spaces_before-text.ensures.first c.cut_or_all.ensures in
    (sym c.without_spaces_before-text.ensures.words ∙ taken.0, omega (arith, taken.1, c.without_spaces_before-text.ensures.len))
