use Rattle.std.proofs.Common.{◌≡◌, ◌<◌, map, take, All}
use Rattle.alg_model.specs.Coefficients.{mod_ops}
use Rattle.ff_matrix.proofs.solutions.negatives.Given as goal

abbrev pub invariant-loop-x : goal.invariant-loop-x
invariant-loop-x l = record {
  value : l.column ≡ map (λ x. (mod_ops l.p).neg x) (take l.x-index l.numbers);
  residues : All (λ x. x < l.p) l.column;
}
