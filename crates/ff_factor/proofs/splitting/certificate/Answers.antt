use Rattle.ff_factor.proofs.CriterionOverResidues.{certified_irreducible}
use Rattle.ff_factor.proofs.splitting.certificate.Goals as goal

pub returns-clause-irreducible : goal.returns-clause-irreducible
returns-clause-irreducible c =
    let r = c.requires in
    certified_irreducible c.args.f.now (record { u = c.args.u; w = c.args.w; left = c.args.left }) c.prime-prime.ensures.whole r.monic r.not_constant
    c.prime-first.ensures.whole c.prime-second.ensures.whole c.prime-third.ensures.whole
    (record { shape = record { primes = r.primes; short = r.short; columns = r.columns }; separable = r.separable; left_inverse = r.left_inverse })
