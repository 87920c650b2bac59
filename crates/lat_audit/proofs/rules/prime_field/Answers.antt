-- The characteristic is one of the edition.
use Rattle.std.proofs.Common.{rules, ◌≡◌, ℕ, List, sym, subst}
use Rattle.std.specs.Prelude.{Contains}
use Rattle.alg_model.specs.Lattices.{field_at}
use Rattle.lat_audit.proofs.rules.prime_field.Goals as goal

pub unreachable-requires : goal.unreachable-requires
unreachable-requires c =
    let p = (field_at c.args.table.now.rows c.args.j).characteristic in
    let is : c.from-p.result ≡ p = search rules in
    c.in-None.ensures (subst (λ (q : ℕ). Contains c.characteristics.result.now q) (sym is)
    (subst (λ (ps : List ℕ). Contains ps p) (sym c.characteristics.ensures) (c.requires.edition.known c.args.j c.requires.within)))
