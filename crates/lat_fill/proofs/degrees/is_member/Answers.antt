use Rattle.std.proofs.Common.{sym, ◌∙◌}
use Rattle.alg_model.specs.Candidates.IsMember.{of_source, of_target}
use Rattle.lat_core.specs.SharedRows.{IsBetween}
use Rattle.lat_fill.proofs.DegreeLists.{told_member}
use Rattle.lat_fill.proofs.WayLists.{found_stored}
use Rattle.lat_fill.proofs.degrees.is_member.Goals as goal

pub returns-then-is_some : goal.returns-then-is_some
returns-then-is_some c = (
  λ h. of_target (found_stored c.map.result (λ e. e.now.images) _ (λ e. IsBetween c.args.lattice.now.rows c.args.number c.args.into e.now)
      c.map.ensures (sym c.is_some.ensures ∙ c.if-is_some.true)).1,
  λ m. c.if-is_some.true,
)

pub returns-else-is_some : goal.returns-else-is_some
returns-else-is_some c = (
  λ h. of_source (found_stored c.map-else-is_some.result (λ e. e.now.images) _
      (λ e. IsBetween c.args.lattice.now.rows c.args.number c.args.from e.now)
      c.map-else-is_some.ensures (sym c.is_some-else-is_some.ensures ∙ h)).1,
  λ m. c.is_some-else-is_some.ensures
      ∙ told_member c.map.result c.map-else-is_some.result _ _ c.map.ensures c.map-else-is_some.ensures
      (sym c.is_some.ensures ∙ c.if-is_some.false) m,
)
