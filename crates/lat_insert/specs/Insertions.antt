-- Which steps add to the lattice. Only these may be answered that there is no memory.
--     AddsToLattice reply         by this reply a field is declared, or maps are added
--     StepAdds L request          the reply to the request is one of these
use Rattle.std.specs.Prelude.{◌<◌, true, false}
use Rattle.alg_model.specs.Lattices.{Lattice}
use Rattle.lat_core.specs.declared.requests.Request.{Request}
use Rattle.lat_core.specs.declared.replies.Reply.{Reply}
use Rattle.lat_core.specs.declared.replies.Reply.TheVariants.{Declared, Embedded, Synced, Refused}
use Rattle.lat_core.specs.Step.{Steps}

-- a field that wasn't there, or at least one map that wasn't
abbrev pub AddsToLattice : Reply → Type 0
AddsToLattice (Declared number true) = ⊥
AddsToLattice (Declared number false) = Unit {0}
AddsToLattice (Embedded image made linked) = 0 < linked
AddsToLattice Synced = ⊥
AddsToLattice (Refused refusal) = ⊥

-- the step adds to the lattice
abbrev pub StepAdds : Lattice → Request → Type 0
StepAdds L request = (reply : Reply) × (M : Lattice) × Steps L request reply M
    × AddsToLattice reply
