use Rattle.std.proofs.Common.{ap}
use Rattle.lat_core.proofs.KeptMaps.{map_into_found}
use Rattle.lat_core.proofs.shared_rows.SharedRow.map_into.Goals as goal

pub returns : goal.returns
returns c = map_into_found (λ a. a.value) c.get.result c.args.self.now.maps c.args.target c.self.inside.maps.entries
    c.get.ensures.value (ap (λ r. r.maps) c.self.view_is)
