use Rattle.std.proofs.Common.{length, ap, sym, ◌∙◌}
use Rattle.std.proofs.lemmas.Bool.{eqb-true, eq-eqb}
use Rattle.alg_model.specs.Coefficients.{mod_ops}
use Rattle.alg_rings.proofs.ResidueFields.{residues_field}
use Rattle.alg_linear.proofs.Columns.{length_identity}
use Rattle.ff_factor.proofs.Identities.{identity_iff}
use Rattle.ff_factor.proofs.certificates.is_identity.Goals as goal

pub returns-then-columns-n : goal.returns-then-columns-n
returns-then-columns-n c =
    let p = c.args.m.now.prime in
    let whole = c.rows.ensures.whole in
    let e = identity_iff (residues_field p whole.characteristic).ring c.args.m.now.matrix whole.entries c.args.n
    (sym c.rows.ensures.value ∙ c.if-rows-n.false) (sym c.columns.ensures.value ∙ c.if-columns-n.true) in
    ((λ t. e.0 (c.has_unit_columns.ensures.0 t)), (λ h. c.has_unit_columns.ensures.1 (e.1 h)))

pub returns-else-columns-n : goal.returns-else-columns-n
returns-else-columns-n c = (
  (λ t. absurd (c.if-columns-n.false (eqb-true c.columns.result c.args.n t))),
  (λ h. eq-eqb c.columns.result c.args.n
      (c.columns.ensures.value ∙ ap (λ m. length m.columns) h ∙ length_identity (mod_ops c.args.m.now.prime) c.args.n)),
)
