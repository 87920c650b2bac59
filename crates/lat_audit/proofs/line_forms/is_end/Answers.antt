-- The last line is one text.
use Rattle.std.proofs.Common.{[], ◌∷◌}
use Rattle.std.specs.Prelude.{codes}
use Rattle.lat_audit.proofs.LineWords.{line_words, line_from_words}
use Rattle.lat_audit.proofs.line_forms.is_end.Goals as goal

pub returns : goal.returns
returns c = (
  λ t. line_from_words c.args.line.now (codes "end" ∷ []) (c.is_text.ensures.0 t),
  λ e. c.is_text.ensures.1 (line_words c.args.line.now (codes "end" ∷ []) e),
)
