-- The cut is at the first such byte.
use Rattle.std.proofs.Common.{◌==◌, sym, ◌∙◌}
use Rattle.lat_language.proofs.LinesAndWords.{cut_none, cut_some}
use Rattle.lat_language.proofs.cutting.cut.Goals as goal

pub returns-in-None : goal.returns-in-None
returns-in-None c = cut_none (λ b. b == c.args.byte) c.args.text.now (sym c.place_of.ensures ∙ c.in-None.is)

pub returns-in-Some : goal.returns-in-Some
returns-in-Some c = cut_some (λ b. b == c.args.byte) c.args.text.now c.in-Some.place (sym c.place_of.ensures ∙ c.in-Some.is)
