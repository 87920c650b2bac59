use Rattle.std.proofs.Common.{◌≡◌, ◌↔◌, ◌%◌, rules}
use Rattle.lat_fill.specs.PrivateWays.{Goes}
use Rattle.lat_fill.proofs.WayLists.{goes_iff}
use Rattle.lat_fill.proofs.links.goes.Goals as goal

pub returns : goal.returns
returns c =
    let i : (c.source_degree.result % c.source_degree-2.result ≡ 0) ↔ Goes c.args.members.now c.args.a c.args.b =
    goes_iff c.args.members.now c.args.a c.args.b c.source_degree-2.result c.source_degree.result
    c.index-members-a.result c.index-members-b.result c.requires.first c.requires.second
    c.source_degree-2.ensures.value c.source_degree.ensures.value in
    (λ h. i.0 (search rules), λ g. let z : c.source_degree.result % c.source_degree-2.result ≡ 0 = i.1 g in search rules)
