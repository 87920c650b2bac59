use Rattle.std.proofs.Common.{◌≡◌, ◌%◌, map, eqb}
use Rattle.std.specs.Prelude.{filter}
use Rattle.std.specs.List.{range_with_len}
use Rattle.lat_gen.specs.PrivateDraws.{embedded_at}
use Rattle.lat_gen.proofs.scripts.embeddings.Given as goal

-- of the first embeddings those that go to this position
abbrev pub invariant-loop-k : goal.invariant-loop-k
invariant-loop-k l = l.commands ≡ map (embedded_at l.fields) (filter (λ k. eqb (k % 4) l.position) (range_with_len 0 l.k))
