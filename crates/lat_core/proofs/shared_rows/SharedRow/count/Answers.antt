use Rattle.std.proofs.Common.{◌∙◌, ap, sym}
use Rattle.std.specs.FinMap.{len}
use Rattle.lat_core.proofs.MapLengths.{len_of_table}
use Rattle.lat_core.proofs.shared_rows.SharedRow.count.Goals as goal

pub returns : goal.returns
returns c = c.len.ensures.len ∙ sym (len_of_table (λ a. a.value) c.self.inside.maps.entries c.len.ensures.unique)
    ∙ ap (λ r. len r.maps) c.self.view_is
