use Rattle.std.proofs.Common.{◌≡◌}
use Rattle.lat_gen.specs.Generated.{state_after}
use Rattle.lat_gen.specs.PrivateDraws.{draws_below}
use Rattle.lat_gen.proofs.draws.Generator.draw_below.Given as goal

-- so many numbers are drawn
abbrev pub invariant-loop-k : goal.invariant-loop-k
invariant-loop-k l = (l.numbers.items ≡ draws_below l.fn.self.state l.modulus l._k)
    × (l.self.state ≡ state_after l.fn.self.state l._k)
