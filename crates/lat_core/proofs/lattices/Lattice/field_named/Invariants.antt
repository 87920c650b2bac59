use Rattle.std.proofs.Common.{ℕ, ◌<◌}
use Rattle.lat_core.specs.Step.{IsNamed}
use Rattle.lat_core.proofs.lattices.Lattice.field_named.Given as goal

-- none of the fields so far has the name
abbrev pub invariant-loop-number : goal.invariant-loop-number
invariant-loop-number l = (n : ℕ) → n < l.number → ¬ IsNamed l.self n l.name
