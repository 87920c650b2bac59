use Rattle.std.proofs.Common.{◌≡◌, [], sym, subst}
use Rattle.alg_model.specs.Factors.{IsGreatestCommonDivisor}
use Rattle.alg_model.specs.Maps.{field_values}
use Rattle.ff_poly.proofs.Euclid.{gcd_step}
use Rattle.ff_polyx.proofs.FieldCarriers.{propositional, ring}
use Rattle.ff_polyx.proofs.polynomials.PolyX.gcd.Goals as goal

pub euclid-preserved : goal.euclid-preserved
euclid-preserved c =
    let K = c.args.field.now in
    let a = c.euclid.first in
    let b = c.euclid.second in
    let h = c.euclid.invariant in
    let division = c.divrem-rest.ensures.division in
    record {
      first = h.second;
      second = division.remainder;
      gcd = λ g G. h.gcd g (gcd_step (propositional K) (ring K c.prime-prime.ensures.whole) a b
          c.divrem-rest.result.0 c.divrem-rest.result.1 g h.first h.second division G);
    }

pub returns : goal.returns
returns c =
    let v = field_values c.args.field.now in
    let f = c.euclid.first in
    let g = c.made_monic.result in
    let zero : c.euclid.second ≡ [] = c.is_zero.ensures.0 c.euclid-test.false in
    record {
      gcd = c.euclid.invariant.gcd g (subst (λ xs. IsGreatestCommonDivisor v f xs g) (sym zero)
          c.made_monic.ensures);
    }
