use Rattle.alg_rings.proofs.ResidueFields.{residues_field, residues_propositional}
use Rattle.ff_factor.proofs.Cofactors
use Rattle.ff_factor.proofs.factorization.cofactor.Goals as goal

pub returns-clause-cofactor : goal.returns-clause-cofactor
returns-clause-cofactor c =
    let p = c.args.f.now.prime in
    Cofactors.cofactor (residues_propositional p) (residues_field p c.prime-prime.ensures.whole.characteristic) _ _ _ _
    c.requires.monic c.requires.factor c.divrem-quotient.ensures.division
