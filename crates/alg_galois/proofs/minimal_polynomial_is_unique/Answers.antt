use Rattle.alg_galois.proofs.FieldMinimals.{subfield_minimals}
use Rattle.alg_galois.proofs.minimal_polynomial_is_unique.Goals as goal

pub returns-clause-exists : goal.returns-clause-exists
returns-clause-exists c = λ E F V W m D a va. (subfield_minimals E F V W m D a va).exists

pub returns-clause-unique : goal.returns-clause-unique
returns-clause-unique c = λ E F V W m D a va. (subfield_minimals E F V W m D a va).unique

pub returns-clause-irreducible : goal.returns-clause-irreducible
returns-clause-irreducible c = λ E F V W m D a va. (subfield_minimals E F V W m D a va).irreducible

pub returns-clause-divides : goal.returns-clause-divides
returns-clause-divides c = λ E F V W m D a va. (subfield_minimals E F V W m D a va).divides
