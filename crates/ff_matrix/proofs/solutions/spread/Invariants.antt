use Rattle.ff_matrix.proofs.PivotPlaces.{IsSpread}
use Rattle.ff_matrix.proofs.solutions.spread.Given as goal

abbrev pub invariant-loop-i : goal.invariant-loop-i
invariant-loop-i l = IsSpread l.n l.places l.values l.numbers.items l.i
