-- A line of these words is cut three times behind the first one.
use Rattle.lat_audit.proofs.LineWords.{field_uncut_first, field_uncut_second, field_uncut_third}
use Rattle.lat_audit.proofs.line_forms.field_words.Goals as goal

pub returns-in_default-cut : goal.returns-in_default-cut
returns-in_default-cut c = λ x y z t w. field_uncut_first c.args.line.now x y z t w c.in-Some.words.now c.in-Some.ensures c.in_default-cut.ensures

pub returns-in_default-cut-2 : goal.returns-in_default-cut-2
returns-in_default-cut-2 c = λ x y z t w. field_uncut_second c.args.line.now x y z t w c.in-Some.words.now c.in-Some-cut.number.now c.in-Some-cut.behind.now c.in-Some.ensures c.in-Some-cut.ensures c.in_default-cut-2.ensures

pub returns-in-None : goal.returns-in-None
returns-in-None c = λ x y z t w. field_uncut_third c.args.line.now x y z t w c.in-Some.words.now c.in-Some-cut.number.now c.in-Some-cut.behind.now c.in-Some-cut-2.name.now c.in-Some-cut-2.last.now
    c.in-Some.ensures c.in-Some-cut.ensures c.in-Some-cut-2.ensures c.in-None.ensures
