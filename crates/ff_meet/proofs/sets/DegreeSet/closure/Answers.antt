use Rattle.std.proofs.Common.{◌≡◌, ℕ, nat_eq, IsTrue, subst, arith, rules}
use Rattle.std.proofs.lemmas.Bool.Decides.{nat_tests}
use Rattle.ff_meet.specs.Degrees.{InClosure, IsDegreeSet}
use Rattle.ff_meet.proofs.Closures.{built_more, built_all, closure_from_common, common_from_closure, closure_bounds}
use Rattle.ff_meet.proofs.sets.DegreeSet.closure.Goals as goal

equal : (a b : ℕ) → IsTrue (nat_eq a b) → a ≡ b
equal a b t = grind (arith, nat_tests, t)

told : (a b : ℕ) → a ≡ b → IsTrue (nat_eq a b)
told a b e = search (rules, nat_tests)

pub loop-d-preserved : goal.loop-d-preserved
loop-d-preserved c =
    built_more (InClosure c.args.self.now) c.loop-d.held c.loop-d.d (nat_eq c.common.result c.loop-d.d)
    (omega (arith, c.loop-d.auto.d)) (omega (arith, c.loop-d-test.true)) (
      λ t. closure_from_common c.args.self.now c.loop-d.d c.common.result (omega (arith, c.loop-d.auto.d)) c.common.ensures (equal c.common.result c.loop-d.d t),
      λ k. told c.common.result c.loop-d.d (common_from_closure c.args.self.now c.loop-d.d c.common.result c.common.ensures k),
    )
    c.loop-d.invariant

pub returns : goal.returns
returns c =
    built_all (InClosure c.args.self.now) c.loop-d.held c.loop-d.d (omega (arith, c.loop-d-test.false))
    (λ d k. closure_bounds c.args.self.now d (subst IsDegreeSet c.self.view_is c.self.invariant) k) c.loop-d.invariant
