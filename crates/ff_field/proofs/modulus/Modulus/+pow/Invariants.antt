use Rattle.ff_field.proofs.modulus.Modulus.+pow.Given as goal

abbrev pub decreases-pow : goal.decreases-pow
decreases-pow l = l.e
