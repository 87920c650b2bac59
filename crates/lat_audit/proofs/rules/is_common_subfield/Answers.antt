-- The degree and the two maps tell.
use Rattle.std.proofs.Common.{◌≡◌, ◌≢◌, ℕ, List, sym, subst, ◌∙◌}
use Rattle.std.specs.Int.{IsGcd}
use Rattle.alg_model.specs.Maps.{degree_of}
use Rattle.alg_model.specs.Lattices.{Stored, field_at}
use Rattle.lat_audit.proofs.RuleDegrees.{other_degree, common_told}
use Rattle.lat_audit.proofs.rules.is_common_subfield.Goals as goal

pub returns-then-degree : goal.returns-then-degree
returns-then-degree c =
    let L = c.args.table.now in
    let apart : degree_of (field_at L.rows c.args.l) ≢ c.args.degree = λ e. c.if-degree.true (c.degree.ensures ∙ e) in
    other_degree L c.args.i c.args.j c.args.l c.args.degree c.requires.degree apart

pub returns-then-has_map : goal.returns-then-has_map
returns-then-has_map c =
    let L = c.args.table.now in
    let own : c.args.degree ≡ degree_of (field_at L.rows c.args.l) = sym c.if-degree.false ∙ c.degree.ensures in
    let gcd : IsGcd (degree_of (field_at L.rows c.args.i)) (degree_of (field_at L.rows c.args.j)) (degree_of (field_at L.rows c.args.l)) =
    subst (λ (d : ℕ). IsGcd (degree_of (field_at L.rows c.args.i)) (degree_of (field_at L.rows c.args.j)) d) own c.requires.degree in
    let first : (m : List (List ℕ)) × Stored L c.args.l c.args.i m = c.if-has_map.ensures in
    common_told L c.args.i c.args.j c.args.l c.has_map-then-has_map.result gcd first c.has_map-then-has_map.ensures
