-- A text with a byte has a first line.
use Rattle.std.proofs.Common.{ap, ◌∙◌}
use Rattle.lat_language.specs.Grammar.{lines_of}
use Rattle.lat_language.proofs.LinesAndWords.{lines_none, first_line_taken, empty_from_test, some_from_test}
use Rattle.lat_language.proofs.cutting.first_line.Goals as goal

pub returns-then-is_empty : goal.returns-then-is_empty
returns-then-is_empty c =
    ap lines_of (empty_from_test c.args.text.now _ c.is_empty.ensures c.if-is_empty.true) ∙ lines_none

pub returns : goal.returns
returns c = first_line_taken _ _ _ (some_from_test c.args.text.now _ c.is_empty.ensures c.if-is_empty.false) c.cut_or_all.ensures
