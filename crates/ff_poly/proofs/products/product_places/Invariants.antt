use Rattle.std.proofs.Common.{◌≡◌, ℕ, ◌%◌, ◌<◌, take}
use Rattle.alg_model.specs.Polynomials.{convolution}
use Rattle.alg_rings.proofs.Residues.{nat_ops}
use Rattle.ff_residues.specs.SumRows.{residue_at}
use Rattle.ff_poly.proofs.products.product_places.Given as goal

abbrev pub invariant-loop-i : goal.invariant-loop-i
invariant-loop-i g l = record {
  prime : l.sums.prime ≡ l.fn.p;
  rows : (k : ℕ) → k < g.row.W → residue_at l.sums k ≡ convolution nat_ops (take l.i l.a) l.fn.b k % l.fn.p;
}
