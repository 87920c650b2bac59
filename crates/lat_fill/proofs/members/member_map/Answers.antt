use Rattle.lat_fill.proofs.MemberLists.{into_stored, into_through}
use Rattle.lat_fill.proofs.members.member_map.Goals as goal

pub returns-in-Some : goal.returns-in-Some
returns-in-Some c = into_stored c.in-Some.map.now c.in_ok-copy.field-0 c.in_ok-copy.ensures.same c.in-Some.ensures

pub returns-in_ok-compose-in-Some-map : goal.returns-in_ok-compose-in-Some-map
returns-in_ok-compose-in-Some-map c = into_through c.in-Some-map.map.now c.in_ok-compose-in-Some-map.field-0 c.args.phi.now c.requires.target
    c.in-Some-map.ensures c.in_ok-compose-in-Some-map.ensures.source c.in_ok-compose-in-Some-map.ensures.target c.in_ok-compose-in-Some-map.ensures.images
