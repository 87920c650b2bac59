use Rattle.std.proofs.Common.{◌≡◌, ℕ, ◌+◌, ◌%◌, ◌<◌, slice_index, take}
use Rattle.alg_model.specs.Polynomials.{convolution}
use Rattle.alg_rings.proofs.Residues.{nat_ops}
use Rattle.ff_residues.specs.SumRows.{residue_at}
use Rattle.ff_poly.proofs.cofactors.less_product.Given as goal

abbrev pub invariant-loop-i : goal.invariant-loop-i
invariant-loop-i g l = record {
  prime : l.sums.prime ≡ l.fn.p;
  rows : (k : ℕ) → k < g.row.W
      → (convolution nat_ops (take l.i l.factors) l.fn.c k + residue_at l.sums k) % l.fn.p ≡ slice_index l.fn.row k % l.fn.p;
}
