use Rattle.std.proofs.Common.{◌≡◌, map}
use Rattle.std.specs.Prelude.{slice_index_or}
use Rattle.std.specs.List.{range_with_len}
use Rattle.lat_gen.specs.Generated.{declaration}
use Rattle.lat_gen.proofs.scripts.prologue.Given as goal

-- the first fields are declared
abbrev pub invariant-loop-k : goal.invariant-loop-k
invariant-loop-k l = l.commands ≡ map (λ k. declaration k (slice_index_or l.polynomials k 0)) (range_with_len 0 l.k)
