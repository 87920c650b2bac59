use Rattle.lat_world.proofs.WorldLemmas.{forced_one}
use Rattle.lat_world.proofs.laws.forced_maps_are_determined.Goals as goal

pub returns : goal.returns
returns c = record { determined = forced_one }
