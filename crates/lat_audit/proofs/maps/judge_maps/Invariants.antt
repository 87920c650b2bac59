use Rattle.std.proofs.Common.{take}
use Rattle.lat_audit.specs.PrivateFaults.{AreMapsOf}
use Rattle.lat_audit.proofs.maps.judge_maps.Given as goal

-- the images so far are those of maps
abbrev pub invariant-loop-image : goal.invariant-loop-image
invariant-loop-image l = AreMapsOf l.fields (take l.image-index l.images) l.maps.items
