use Rattle.std.proofs.Common.{ℕ, ◌+◌, ◌++◌, List, length}
use Rattle.lat_fill.specs.PrivateListing.{AreListed}
use Rattle.lat_fill.proofs.made.list_made.Given as goal

-- the added fields so far stand in the list
abbrev pub invariant-loop-place : goal.invariant-loop-place
invariant-loop-place l = (E : ℕ) (phi : List (List ℕ))
    → AreListed l.lattice E l.into phi (l.lattice.rows ++ l.fields) (length l.lattice.rows) l.fn.members.items
    → AreListed l.lattice E l.into phi (l.lattice.rows ++ l.fields) (length l.lattice.rows + l.place) l.members.items
