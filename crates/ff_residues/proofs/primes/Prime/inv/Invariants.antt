use Rattle.std.proofs.Common.{◌≡◌, ◌*◌, ◌%◌, ◌<◌}
use Rattle.ff_residues.proofs.primes.Prime.inv.Given as goal

abbrev pub invariant-loop-rest : goal.invariant-loop-rest
invariant-loop-rest l = record {
  reached : (l.a * l.inverse) % l.p ≡ l.rest;
  not_zero : 0 < l.rest;
  below : l.rest < l.p;
  residue : l.inverse < l.p;
}

abbrev pub decreases-loop-rest : goal.decreases-loop-rest
decreases-loop-rest l = l.rest
