use Rattle.std.proofs.Common.{◌≡◌, ◌<◌, ◌≤◌, take, All}
use Rattle.ff_poly.specs.declared.TheConstants.{MAX_DEGREE}
use Rattle.lat_world.specs.Worlds.{degrees_of}
use Rattle.lat_world.proofs.worlds.World.degrees.Given as goal

abbrev pub invariant-loop-member : goal.invariant-loop-member
invariant-loop-member l = record {
  degrees : l.degrees.items ≡ degrees_of (take l.member-index l.member-items);
  small : All (λ d. (0 < d) × (d ≤ MAX_DEGREE)) l.degrees.items;
}
