-- The line is passed over, or is the header.
use Rattle.std.proofs.Common.{refl, sym, ap, ◌∙◌}
use Rattle.lat_language.specs.Grammar.{State, PassedOver, Header, after}
use Rattle.lat_language.proofs.LineMeanings.{says_passed, says_header}
use Rattle.lat_language.proofs.parsing.Reader.take.Goals as goal

pub returns-then-is_passed_over : goal.returns-then-is_passed_over
returns-then-is_passed_over c =
    (PassedOver, says_passed c.args.self.now c.args.line.now c.if-too_long.false (c.is_passed_over.ensures.0 c.if-is_passed_over.true), refl)

pub returns : goal.returns
returns c = (
  Header,
  says_header c.args.self.now c.args.line.now c.if-too_long.false
      (sym (ap (λ (s : State). s.begun) c.self.view_is) ∙ c.if-self.false)
      (c.is_header.ensures.0 c.if-not-is_header.false),
  ap (λ (s : State). after s Header) c.self.view_is,
)
