use Rattle.std.proofs.Common.{◌≡◌, ℕ, ◌<◌, ◌≤◌, length, drop, slice_index, All}
use Rattle.alg_model.specs.Coefficients.{mod_ops}
use Rattle.alg_model.specs.Polynomials.{evaluate}
use Rattle.ff_factor.proofs.linear.values.Given as goal

abbrev pub invariant-loop-n : goal.invariant-loop-n
invariant-loop-n g l = record {
  within : l.n ≤ length l.f;
  lanes : length l.values ≡ g.row.W;
  residues : All (λ x. x < l.p) l.values;
  horner : (k : ℕ) → k < g.row.W → slice_index l.values k ≡ evaluate (mod_ops l.p) (drop l.n l.f) (slice_index l.points k);
}

abbrev pub decreases-loop-n : goal.decreases-loop-n
decreases-loop-n g l = l.n
