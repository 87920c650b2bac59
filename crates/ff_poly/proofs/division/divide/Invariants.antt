use Rattle.std.proofs.Common.{◌≡◌, ℕ, ◌≤◌, length, slice_index}
use Rattle.ff_poly.specs.PrivateSums.{residue_row}
use Rattle.ff_poly.proofs.Quotients.{Divided}
use Rattle.ff_poly.proofs.division.divide.Given as goal

abbrev pub invariant-loop-at : goal.invariant-loop-at
invariant-loop-at g l = record {
  prime : l.sums.prime ≡ l.p;
  long : length l.quotient ≡ g.row.W;
  short : (k : ℕ) → l.steps ≤ k → slice_index l.quotient k ≡ 0;
  divided : Divided l.p l.degree l.steps l.at l.quotient l.d (residue_row g.row.W l.sums) l.initial.rest;
}

abbrev pub decreases-loop-at : goal.decreases-loop-at
decreases-loop-at g l = l.at
