use Rattle.std.proofs.Common.{arith}
use Rattle.std.proofs.lemmas.Nat.Gcd.{dvd_of_mod-eq-zero, mod-eq-zero_of_dvd}
use Rattle.lat_fill.proofs.ExitTables.{opened_none, opened_more, opened_past, opened_all}
use Rattle.lat_fill.proofs.exits.open.Goals as goal
use Rattle.lat_fill.proofs.exits.open.Goals.{then-degree-d-eq0, else-degree-d-eq0}

pub loop-d-init : goal.loop-d-init
loop-d-init c = opened_none c.args.exits.now c.args.degree c.args.place c.requires.degree.0 c.requires.count

pub loop-d-preserved : goal.loop-d-preserved
loop-d-preserved c = elim c.if-degree-d-eq0.branch [
  | then-degree-d-eq0 w ↦ rw w.exits-is (opened_more (dvd_of_mod-eq-zero c.loop-d.d w.if-degree-d-eq0.true)
      (omega (arith, c.loop-d-test.true, c.requires.degree.1)) c.loop-d.invariant)
  | else-degree-d-eq0 w ↦ rw w.exits-is (opened_past (λ h. w.if-degree-d-eq0.false (mod-eq-zero_of_dvd c.loop-d.d h)) c.loop-d.invariant)
]

pub returns-clause-divisors : goal.returns-clause-divisors
returns-clause-divisors c = opened_all c.requires.degree.0 (omega (arith, c.loop-d-test.false)) c.loop-d.invariant
