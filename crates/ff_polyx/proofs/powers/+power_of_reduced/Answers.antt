use Rattle.std.proofs.Common.{◌+◌, ◌/◌, [], ◌∷◌, length, ap, sym, ◌∙◌, subst, arith}
use Rattle.alg_model.specs.Polynomials.{trim, poly_power}
use Rattle.alg_model.specs.Maps.{field_values}
use Rattle.alg_rings.proofs.Trims.{length_trim}
use Rattle.alg_rings.proofs.CarrierPolynomials.{nil_polynomial}
use Rattle.ff_poly.proofs.PowersModulo.{Leaves, square_leaves, next_leaves}
use Rattle.ff_polyx.proofs.FieldCarriers.{propositional, field, ring}
use Rattle.ff_polyx.proofs.powers.+power_of_reduced.Goals as goal

pub returns-then-e-eq0 : goal.returns-then-e-eq0
returns-then-e-eq0 t c =
    let K = c.args.field.now in
    let v = field_values K in
    let o = v.ops in
    let r = c.of_values.result in
    let one = c.of_values.ensures.coefficients ∙ ap (λ x. trim o (x ∷ [])) c.one.ensures.value in
    record {
      power = subst (λ n. Leaves v (poly_power o c.args.a.now n) c.args.f.now r)
          (sym c.if-e-eq0.true) (
            [],
            record {
              quotient = nil_polynomial (propositional K) (ring K c.prime-prime.ensures.whole);
              remainder = c.of_values.ensures.valid;
              identity = c.of_values.ensures.valid.1 ∙ one;
              smaller = omega (
                arith,
                ap length one,
                length_trim o (o.one ∷ []),
                c.requires.not_constant,
              );
            },
          );
    }

pub returns-then-e-eq1 : goal.returns-then-e-eq1
returns-then-e-eq1 t c =
    let K = c.args.field.now in
    let P = propositional K in
    let F = field K c.prime-prime.ensures.whole in
    let a = c.args.a.now in
    let f = c.args.f.now in
    let r = c.power_of_reduced-root.result in
    let s = c.mul_mod-square.result in
    let h = c.args.e / 2 in
    record {
      power = next_leaves P F a f s c.mul_mod.result (h + h) c.args.e c.requires.base
          c.requires.modulus (omega arith)
          (square_leaves P F a f r s h (h + h) c.requires.base c.requires.modulus (omega arith)
          c.power_of_reduced-root.ensures.power c.mul_mod-square.ensures.product)
          c.mul_mod.ensures.product;
    }

pub returns-else-e-eq1 : goal.returns-else-e-eq1
returns-else-e-eq1 t c =
    let K = c.args.field.now in
    record {
      power = square_leaves (propositional K) (field K c.prime-prime.ensures.whole) c.args.a.now
          c.args.f.now c.power_of_reduced-root.result c.mul_mod-square.result (c.args.e / 2) c.args.e
          c.requires.base c.requires.modulus (omega arith) c.power_of_reduced-root.ensures.power
          c.mul_mod-square.ensures.product;
    }
