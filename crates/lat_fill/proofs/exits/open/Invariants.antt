use Rattle.lat_fill.proofs.ExitTables.{IsOpenedBelow}
use Rattle.lat_fill.proofs.exits.open.Given as goal

abbrev pub invariant-loop-d : goal.invariant-loop-d
invariant-loop-d l = IsOpenedBelow l.fn.exits l.exits l.degree l.place l.d
