use Rattle.std.proofs.Common.{◌≡◌, take}
use Rattle.lat_core.specs.PrivateOpening.{identities_from}
use Rattle.lat_core.proofs.opening.identities.Given as goal

abbrev pub invariant-loop-number : goal.invariant-loop-number
invariant-loop-number l = l.maps.items ≡ identities_from 0 (take l.number l.fields)
