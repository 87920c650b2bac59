-- Carriers whose elements are told by a test: that a value passes is a fact in one way only.
use Rattle.std.proofs.Common.{Bool}
use Rattle.std.proofs.Math.Bool.{Bool-set}
use Rattle.alg_model.specs.Coefficients.{Ops, tested}
use Rattle.alg_rings.specs.Laws.{IsPropositional}

pub tested_propositional : {A : Type 0} → IsSet A → (o : Ops A) (test : A → Bool) → IsPropositional (tested o test)
tested_propositional s o test = record { set = s; valid = λ x. Bool-set (test x) _ }
