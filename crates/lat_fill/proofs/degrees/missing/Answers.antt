use Rattle.std.proofs.Common.{ℕ, ◌↔◌, subst}
use Rattle.std.specs.List.{Contains}
use Rattle.ff_meet.specs.Degrees.{Holds}
use Rattle.lat_fill.proofs.DegreeLists.{missing_degrees, closure_small, held_small}
use Rattle.lat_fill.proofs.degrees.missing.Goals as goal

pub rising-requires : goal.rising-requires
rising-requires c = λ d h. closure_small
    (held_small c.of.result c.as_slice.result.now c.member_degrees-degrees.result.items c.of.ensures c.as_slice.ensures.value
    c.member_degrees-degrees.ensures.small) ((c.missing.ensures d).0 h).0

pub returns-clause-missing : goal.returns-clause-missing
returns-clause-missing c = missing_degrees c.of.result c.missing.result c.member_degrees-degrees.result.items c.rising.result.items
    c.member_degrees-degrees.ensures.degrees
    (subst (λ xs. (d : ℕ) → Holds c.of.result d ↔ Contains xs d) c.as_slice.ensures.value c.of.ensures)
    c.missing.ensures c.rising.ensures.rising c.rising.ensures.exactly
