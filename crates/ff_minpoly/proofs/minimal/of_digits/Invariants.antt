use Rattle.ff_minpoly.proofs.DigitValues.{AreChunks}
use Rattle.ff_minpoly.proofs.minimal.of_digits.Given as goal

abbrev pub invariant-loop-j : goal.invariant-loop-j
invariant-loop-j l = AreChunks l.field l.digits l.coefficients.items l.j
