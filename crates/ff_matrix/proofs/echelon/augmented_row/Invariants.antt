use Rattle.std.proofs.Common.{◌≡◌, ℕ, ◌<◌, ◌≤◌, length, get_or, All}
use Rattle.alg_model.specs.Coefficients.{mod_ops}
use Rattle.alg_model.specs.Matrices.{entry}
use Rattle.ff_matrix.proofs.echelon.augmented_row.Given as goal

abbrev pub invariant-loop-k : goal.invariant-loop-k
invariant-loop-k g l = record {
  long : length l.row ≡ g.row.W;
  done : (k : ℕ) → k < l.k → get_or l.row k 0 ≡ entry (mod_ops l.m.prime) l.m.matrix l.i k;
  rest : (k : ℕ) → l.k ≤ k → get_or l.row k 0 ≡ 0;
  residues : All (λ x. x < l.m.prime) l.row;
}
