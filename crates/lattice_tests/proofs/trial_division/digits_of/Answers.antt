-- One digit more is taken off what is left.
use Rattle.std.proofs.Common.{◌<◌, ◌≡◌, ◌++◌, ◌∷◌, [], ◌%◌, arith, ap, ◌∙◌, subst, sym}
use Rattle.std.specs.Prelude.{All, List, ℕ}
use Rattle.std.proofs.lemmas.List.Elements.{All-push}
use Rattle.lattice_tests.proofs.NumbersOfPolynomials.{digit_more}
use Rattle.lattice_tests.proofs.trial_division.digits_of.Goals as goal

pub loop-place-preserved : goal.loop-place-preserved
loop-place-preserved c =
    let base : c.from-base.result ≡ c.args.p = c.from-base.ensures ∙ c.number.ensures.value in
    let more : c.push.new.self.items ≡ c.loop-place.digits.items ++ c.loop-place.rest % c.args.p ∷ [] =
    c.push.ensures.items ∙ ap (λ b. c.loop-place.digits.items ++ c.loop-place.rest % b ∷ []) base in
    let positive : 0 < c.args.p = omega arith in
    let digit : c.loop-place.rest % c.args.p < c.args.p = omega arith in
    let AllBelow : List ℕ → Type 0 = All (λ a. a < c.args.p) in
    record {
      filled = omega arith;
      residues = subst AllBelow (sym more) (All-push (λ a. a < c.args.p) c.loop-place.digits.items (c.loop-place.rest % c.args.p) c.loop-place.invariant.residues digit);
      value = rw base (digit_more c.args.p c.loop-place.rest c.args.number c.loop-place._place c.loop-place.digits.items c.push.new.self.items
          positive more c.loop-place.invariant.filled c.loop-place.invariant.value);
    }
