use Rattle.std.proofs.Common.{◌∙◌}
use Rattle.lat_core.specs.PrivateLattices.{maps_of}
use Rattle.lat_core.proofs.KeptMaps.{copied_entries}
use Rattle.lat_core.proofs.shared_rows.SharedRow.copy.Goals as goal

pub returns : goal.returns
returns c =
    (λ i. record { row = c.in_ok-try_clone.ensures i; maps = maps_of (copied_entries (λ a. a.value) _ _ c.in_ok-clone.ensures.cases i) })
    ∙ c.self.view_is
