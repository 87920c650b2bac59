-- The degree is that of the intersection.
use Rattle.std.proofs.Common.{ℕ, subst}
use Rattle.std.specs.Int.{IsGcd}
use Rattle.alg_model.specs.Maps.{degree_of}
use Rattle.alg_model.specs.Lattices.{field_at}
use Rattle.lat_audit.proofs.rules.have_intersection.Goals as goal

pub is_common_subfield-requires-clause-degree : goal.is_common_subfield-requires-clause-degree
is_common_subfield-requires-clause-degree c =
    let L = c.args.table.now in
    subst (λ (m : ℕ). IsGcd m (degree_of (field_at L.rows c.args.j)) c.gcd-degree.result) c.degree.ensures
    (subst (λ (n : ℕ). IsGcd c.degree.result n c.gcd-degree.result) c.degree-2.ensures c.gcd-degree.ensures)
