use Rattle.std.proofs.Common.{◌≡◌, ℕ, ◌<◌, ◌==◌, if◌then◌else◌}
use Rattle.alg_model.specs.Coefficients.{mod_ops}
use Rattle.alg_model.specs.Matrices.{entry}
use Rattle.ff_factor.proofs.certificates.has_unit_columns.Given as goal

abbrev pub invariant-loop-k : goal.invariant-loop-k
invariant-loop-k l = (j : ℕ) → j < l.k → (r : ℕ) → r < l.m.matrix.rows → entry (mod_ops l.m.prime) l.m.matrix r j ≡ (if r == j then 1 else 0)
