use Rattle.ff_residues.proofs.Characteristics.{characteristic_from_any}
use Rattle.ff_residues.proofs.primes.Prime.of.Goals as goal

pub kept-requires : goal.kept-requires
kept-requires c = characteristic_from_any c.args.n c.if-contains.ensures.cases

pub returns-then-contains : goal.returns-then-contains
returns-then-contains c = (characteristic_from_any c.args.n c.if-contains.ensures.cases, c.kept.ensures)
