-- A line of these words is cut twice behind the first one.
use Rattle.lat_audit.proofs.LineWords.{map_uncut_first, map_uncut_second}
use Rattle.lat_audit.proofs.line_forms.map_words.Goals as goal

pub returns-in_default-cut : goal.returns-in_default-cut
returns-in_default-cut c = λ x y z w. map_uncut_first c.args.line.now x y z w c.in-Some.words.now c.in-Some.ensures c.in_default-cut.ensures

pub returns-in-None : goal.returns-in-None
returns-in-None c = λ x y z w. map_uncut_second c.args.line.now x y z w c.in-Some.words.now c.in-Some-cut.from.now c.in-Some-cut.behind.now c.in-Some.ensures c.in-Some-cut.ensures c.in-None.ensures
