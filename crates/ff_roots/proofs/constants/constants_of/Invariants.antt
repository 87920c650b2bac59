use Rattle.std.proofs.Common.{◌≡◌, ◌<◌, All, take}
use Rattle.alg_model.specs.Maps.{constants}
use Rattle.ff_roots.proofs.constants.constants_of.Given as goal

abbrev pub invariant-loop-c : goal.invariant-loop-c
invariant-loop-c l = record {
  values : constants l.field l.residues.items ≡ take l.c-index l.c-items;
  residues : All (λ x. x < l.field.characteristic) l.residues.items;
}
