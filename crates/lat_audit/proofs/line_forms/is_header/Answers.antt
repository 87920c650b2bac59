-- The header is one text.
use Rattle.std.proofs.Common.{[], ◌∷◌, sym, ◌∙◌}
use Rattle.std.specs.Prelude.{codes, decimal}
use Rattle.lat_audit.proofs.LineWords.{line_words, line_from_words, header_text}
use Rattle.lat_audit.proofs.line_forms.is_header.Goals as goal

pub returns : goal.returns
returns c = (
  λ t. line_from_words c.args.line.now (codes "lattice-dump" ∷ decimal 1 ∷ []) (c.is_text.ensures.0 t ∙ sym header_text),
  λ e. c.is_text.ensures.1 (line_words c.args.line.now (codes "lattice-dump" ∷ decimal 1 ∷ []) e ∙ header_text),
)
