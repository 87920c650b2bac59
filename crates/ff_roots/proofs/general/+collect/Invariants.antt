use Rattle.std.proofs.Common.{◌-◌}
use Rattle.alg_model.specs.Maps.{degree_of}
use Rattle.ff_roots.proofs.Collecting.{Collected}
use Rattle.ff_roots.proofs.general.+collect.Given as goal

abbrev pub decreases-collect : goal.decreases-collect
decreases-collect l = degree_of l.field.now - l.k

abbrev pub invariant-residues : goal.invariant-residues
invariant-residues l = Collected l.field l.part l.trace l.initial.list l.c l.rest l.list
