use Rattle.std.proofs.Common.{◌≡◌, ◌<◌, ◌≤◌, drop, length}
use Rattle.alg_model.specs.Coefficients.{mod_ops}
use Rattle.alg_model.specs.Polynomials.{evaluate}
use Rattle.ff_poly.proofs.evaluation.value_of.Given as goal

abbrev pub invariant-loop-n : goal.invariant-loop-n
invariant-loop-n l = record {
  within : l.n ≤ length l.f;
  horner : l.value ≡ evaluate (mod_ops l.p) (drop l.n l.f) l.c;
  residue : l.value < l.p;
}

abbrev pub decreases-loop-n : goal.decreases-loop-n
decreases-loop-n l = l.n
