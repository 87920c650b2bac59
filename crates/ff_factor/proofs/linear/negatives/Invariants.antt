use Rattle.std.proofs.Common.{◌≡◌, ℕ, ◌<◌, length, slice_index, All}
use Rattle.alg_model.specs.Coefficients.{mod_ops}
use Rattle.ff_factor.proofs.linear.negatives.Given as goal

abbrev pub invariant-loop-c : goal.invariant-loop-c
invariant-loop-c g l = record {
  lanes : length l.points ≡ g.row.W;
  residues : All (λ x. x < l.p) l.points;
  done : (k : ℕ) → k < l.c → slice_index l.points k ≡ (mod_ops l.p).neg k;
}
