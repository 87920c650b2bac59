use Rattle.std.proofs.Common.{arith, subst}
use Rattle.alg_rings.proofs.Primes.{characteristic_is_prime}
use Rattle.ff_field.specs.SmallFields.{IsSmallField}
use Rattle.ff_field.specs.PrivateTables.{IsRowTable}
use Rattle.ff_field.proofs.modulus.Modulus.new.Goals as goal

small : (c : goal.After-power_rows-rows) → IsSmallField (record { characteristic = c.args.f.prime; polynomial = c.args.f.coefficients })
small c = record {
  characteristic = c.prime-p.ensures.whole.characteristic;
  finite = record {
    characteristic = characteristic_is_prime c.args.f.prime c.prime-p.ensures.whole.characteristic;
    monic = c.requires.monic;
    irreducible = c.requires.irreducible;
  };
  fits = omega arith;
}

pub invariant_of-result : goal.invariant_of-result
invariant_of-result c = record {
  small = small c;
  rows_are = subst (λ f. IsRowTable c.args.f.prime f c.power_rows-rows.result) c.coefficients.ensures.value
      (subst (λ p. IsRowTable p c.coefficients.result.now c.power_rows-rows.result) c.prime-p.ensures.value
      c.power_rows-rows.ensures);
}

pub returns-clause-whole : goal.returns-clause-whole
returns-clause-whole c = small c
