use Rattle.std.specs.List.{AllWithin}
use Rattle.ff_poly.specs.Polynomial.{IsPoly}
use Rattle.natural_ops.proofs.tables.are_polynomials.Given as goal

abbrev pub invariant-loop-k : goal.invariant-loop-k
invariant-loop-k l = AllWithin IsPoly l.fn.polys 0 l.k
