-- A text is cut at its first space in one way.
use Rattle.std.proofs.Common.{rules, ◌≡◌, sym, subst, ◌∙◌}
use Rattle.lat_audit.specs.PrivateReadings.{Lacks}
use Rattle.lat_audit.proofs.LineWords.{not_cut, one_cut}
use Rattle.lat_audit.proofs.line_forms.after_word.Goals as goal

pub returns-in-None : goal.returns-in-None
returns-in-None c = λ rest e. not_cut 32 c.args.word.now rest (subst (Lacks 32) e c.in-None.ensures)

pub returns-else-eq : goal.returns-else-eq
returns-else-eq c = λ rest e.
    let same : c.in-Some.first.now ≡ c.args.word.now = (one_cut 32 c.in-Some.first.now c.args.word.now c.in-Some.rest.now rest c.in-Some.ensures.1 c.requires (sym c.in-Some.ensures.0 ∙ e)).0 in
    search rules
