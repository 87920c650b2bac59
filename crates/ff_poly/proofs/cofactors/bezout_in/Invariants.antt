use Rattle.std.proofs.Common.{◌≡◌, ◌<◌, length, All}
use Rattle.alg_model.specs.Coefficients.{mod_ops}
use Rattle.alg_model.specs.Polynomials.{trim}
use Rattle.ff_poly.proofs.CofactorRows.{Remainders}
use Rattle.ff_poly.proofs.cofactors.bezout_in.Given as goal

abbrev pub invariant-euclid : goal.invariant-euclid
invariant-euclid g l = record {
  u_count : length l.u ≡ g.row.W;
  v_count : length l.v ≡ g.row.W;
  s_count : length l.s ≡ g.row.W;
  t_count : length l.t ≡ g.row.W;
  u_residues : All (λ x. x < l.p) l.u;
  v_residues : All (λ x. x < l.p) l.v;
  s_residues : All (λ x. x < l.p) l.s;
  t_residues : All (λ x. x < l.p) l.t;
  remainders : Remainders g.row.W l.p l.fn.a l.fn.b l.first l.second l.m l.n (trim (mod_ops l.p) l.u) (trim (mod_ops l.p) l.v)
      (trim (mod_ops l.p) l.s) (trim (mod_ops l.p) l.t);
}

abbrev pub decreases-euclid : goal.decreases-euclid
decreases-euclid g l = l.n
