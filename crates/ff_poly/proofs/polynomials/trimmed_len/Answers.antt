use Rattle.std.proofs.Common.{sym, arith}
use Rattle.alg_model.specs.Coefficients.{mod_ops}
use Rattle.alg_rings.proofs.Residues.{zero_test}
use Rattle.alg_rings.proofs.Trims.{trim_zeros}
use Rattle.ff_poly.proofs.ListPlaces.{trim_is_take}
use Rattle.ff_poly.proofs.polynomials.trimmed_len.Goals as goal

pub returns-then-c-n-ne0-clause-trimmed : goal.returns-then-c-n-ne0-clause-trimmed
returns-then-c-n-ne0-clause-trimmed c p =
    trim_is_take p c.loop-n.n c.args.c.now c.loop-n-test.true c.loop-n.invariant.within c.if-c-n-ne0.true c.loop-n.invariant.zeros

pub returns-clause-trimmed : goal.returns-clause-trimmed
returns-clause-trimmed c p = sym (trim_zeros (mod_ops p) (zero_test p) c.args.c.now (λ k. c.loop-n.invariant.zeros k (omega arith)))
