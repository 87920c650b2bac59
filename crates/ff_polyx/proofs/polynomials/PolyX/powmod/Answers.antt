use Rattle.ff_poly.proofs.PowersModulo.{power_leaves}
use Rattle.ff_polyx.proofs.FieldCarriers.{propositional, field}
use Rattle.ff_polyx.proofs.polynomials.PolyX.powmod.Goals as goal

pub returns : goal.returns
returns c =
    let K = c.args.field.now in
    record {
      power = power_leaves (propositional K) (field K c.prime-prime.ensures.whole) c.args.a.now
          c.args.f.now c.divrem-base.result.1 c.power_of_reduced.result c.args.e c.requires.base
          c.requires.modulus (c.divrem-base.result.0, c.divrem-base.ensures.division)
          c.power_of_reduced.ensures.power;
    }
