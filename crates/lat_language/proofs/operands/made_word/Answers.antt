-- The word is `_` and digits, or isn't.
use Rattle.std.proofs.Common.{◌≡◌, sym, subst, ap, length, arith}
use Rattle.std.specs.Prelude.{MatchOption}
use Rattle.lat_core.specs.Names.{IsMadeName}
use Rattle.lat_language.proofs.ReadWords.{made_read, not_made}
use Rattle.lat_language.proofs.operands.made_word.Goals as goal

pub returns-in-None : goal.returns-in-None
returns-in-None c = λ h. omega (arith, ap length h.2, c.in-None.ensures.cases)

pub returns-then-first-eq95 : goal.returns-then-first-eq95
returns-then-first-eq95 c =
    subst (λ w. MatchOption c.added_name.result (¬ (IsMadeName w)) (λ name. (w ≡ name) × IsMadeName name)) (sym c.in-Some.ensures.cases.0)
    (made_read c.in-Some.first.now c.in-Some.digits.now c.added_name.result c.if-first-eq95.true c.added_name.ensures)

pub returns-else-first-eq95 : goal.returns-else-first-eq95
returns-else-first-eq95 c = λ h.
    not_made c.in-Some.first.now c.in-Some.digits.now c.if-first-eq95.false (subst IsMadeName c.in-Some.ensures.cases.0 h)
