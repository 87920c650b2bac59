use Rattle.std.proofs.Common.{◌≡◌, ℕ, ◌<◌, ◌==◌, if◌then◌else◌}
use Rattle.alg_model.specs.Coefficients.{mod_ops}
use Rattle.alg_model.specs.Matrices.{entry}
use Rattle.ff_factor.proofs.certificates.is_unit_column.Given as goal

abbrev pub invariant-loop-r : goal.invariant-loop-r
invariant-loop-r l = (i : ℕ) → i < l.r → entry (mod_ops l.m.prime) l.m.matrix i l.k ≡ (if i == l.k then 1 else 0)
