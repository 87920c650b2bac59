use Rattle.std.proofs.Common.{◌+◌, sym, subst, rules}
use Rattle.std.proofs.lemmas.Nat.Gcd.{dvd_of_mod-eq-zero, mod-eq-zero_of_dvd}
use Rattle.ff_meet.specs.Degrees.{Holds}
use Rattle.ff_meet.proofs.Closures.{IsCommonBelow, common_skips, common_takes}
use Rattle.ff_meet.proofs.sets.DegreeSet.common.Goals as goal
use Rattle.ff_meet.proofs.sets.DegreeSet.common.Goals.{then-self-e+then-e-d-eq0, else-self-e, else-self-e-via-then-self-e+else-e-d-eq0, else-self-e-via-else-self-e}

pub loop-e-preserved : goal.loop-e-preserved
loop-e-preserved c = elim c.if-self-e.branch [
  | then-self-e+then-e-d-eq0 w ↦
      let held : Holds c.args.self.now c.loop-e.e = subst (λ s. Holds s c.loop-e.e) c.self.view_is w.if-self-e.true in
      subst (λ g. IsCommonBelow c.args.self.now c.args.d (c.loop-e.e + 1) g) (sym w.common-is)
      (common_takes c.args.self.now c.args.d c.loop-e.e c.loop-e.common w.gcd-common.result held
      (dvd_of_mod-eq-zero c.args.d w.if-e-d-eq0.true) w.gcd-common.ensures c.loop-e.invariant)
  | else-self-e w ↦
      subst (λ g. IsCommonBelow c.args.self.now c.args.d (c.loop-e.e + 1) g) (sym w.common-is)
      (common_skips c.args.self.now c.args.d c.loop-e.e c.loop-e.common
      (λ h k. elim w.else-self-e.branch [
        | else-self-e-via-then-self-e+else-e-d-eq0 v ↦ v.if-e-d-eq0.false (mod-eq-zero_of_dvd _ k)
        | else-self-e-via-else-self-e v ↦ let t : Holds c.self.inside.held c.loop-e.e = subst (λ s. Holds s c.loop-e.e) (sym c.self.view_is) h in search rules
      ]) c.loop-e.invariant)
]
