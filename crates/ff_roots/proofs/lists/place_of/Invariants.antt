use Rattle.std.proofs.Common.{◌≢◌, ℕ, List, ◌<◌, slice_index_or, Less}
use Rattle.std.specs.Ordering.{nat_cmp}
use Rattle.alg_model.specs.Factors.{order_by}
use Rattle.ff_roots.proofs.lists.place_of.Given as goal

-- none of the values below i comes after v
abbrev pub invariant-loop-i : goal.invariant-loop-i
invariant-loop-i l = (k : ℕ) (d : List ℕ) → k < l.i
    → order_by nat_cmp l.v (slice_index_or l.values k d) ≢ Less
