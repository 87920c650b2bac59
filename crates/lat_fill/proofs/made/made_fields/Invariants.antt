use Rattle.lat_fill.proofs.MadeFields.{AreMadeBelow}
use Rattle.lat_fill.proofs.made.made_fields.Given as goal

-- the fields so far
abbrev pub invariant-loop-place : goal.invariant-loop-place
invariant-loop-place l = AreMadeBelow l.lattice l.into l.degrees l.place l.fields.items
