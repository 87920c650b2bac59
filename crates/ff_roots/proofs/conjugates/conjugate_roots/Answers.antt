use Rattle.std.proofs.Common.{refl, sym, subst}
use Rattle.alg_model.specs.Roots.{IsRoot}
use Rattle.ff_roots.proofs.conjugates.conjugate_roots.Goals as goal

pub returns : goal.returns
returns c =
    let F = c.args.field.now in
    let h = c.common_roots.ensures in
    let zero = c.of_values.ensures.coefficients in
    record {
      rising = h.rising;
      exactly = λ v. (
        λ m. ((h.exactly v).0 m).0,
        λ r. (h.exactly v).1 (r, subst (λ g. IsRoot F g v) (sym zero) (r.0, refl)),
      );
    }
