use Rattle.std.proofs.Common.{◌∙◌, ap}
use Rattle.std.specs.FinMap.{insert}
use Rattle.lat_core.proofs.KeptMaps.{stored_maps}
use Rattle.lat_core.proofs.shared_rows.SharedRow.store.Goals as goal

pub returns : goal.returns
returns c =
    (λ i. record {
      row = c.self.inside.row.value;
      maps = stored_maps (λ a. a.value) c.self.inside.maps.entries c.insert.new.self.entries c.args.target c.in_ok-map.map c.args.map.now.value
          c.in_ok-map.ensures c.in_ok-insert.ensures.updates.0 i;
    })
    ∙ ap (λ r. record { row = r.row; maps = insert r.maps c.args.target c.args.map.now.value }) c.self.view_is
