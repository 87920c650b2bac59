use Rattle.std.proofs.Common.{◌∙◌, ◌++◌, ◌∷◌, [], ap, subst, sym}
use Prim.Native.Nat.{◌∣◌}
use Rattle.std.proofs.lemmas.Result.{on_ok_weaker}
use Rattle.alg_model.specs.Maps.{degree_of}
use Rattle.alg_model.specs.Lattices.{Stored}
use Rattle.lat_world.specs.Worlds.{map_at, IsForcedBetween}
use Rattle.lat_fill.proofs.WayLists.{provides, exit_way, meets, number_is, stored_none}
use Rattle.lat_fill.proofs.outlets.push_outlet.Goals as goal

pub link-requires-clause-divides : goal.link-requires-clause-divides
link-requires-clause-divides c = subst (λ ms. degree_of (map_at ms c.args.a).source ∣ degree_of (map_at ms c.args.b).source)
    (sym c.of.ensures) c.requires.exit.divides

pub unreachable-requires : goal.unreachable-requires
unreachable-requires c = stored_none c.in-None.ensures
    (subst (λ i. Stored c.args.lattice.now i c.args.k c.requires.exit.is_stored.0)
    (sym (number_is c.args.members.now c.args.b c.index-members-b.result c.requires.second)) c.requires.exit.is_stored.1)

pub compose-requires : goal.compose-requires
compose-requires c = meets c.args.a c.args.b c.args.k _ c.in_ok-link.link c.in-Some.stored.now c.requires.home c.requires.second
    (number_is c.args.members.now c.args.b c.index-members-b.result c.requires.second)
    (subst (λ ms. IsForcedBetween ms c.args.a c.args.b c.in_ok-link.link) c.of.ensures c.in_ok-link.ensures.forced)
    c.in-Some.ensures

pub returns : goal.returns
returns c = on_ok_weaker c.add.result (λ e. provides _ c.requires.ways
    (exit_way c.args.a c.args.b c.args.k _ c.index-members-a.result c.in_ok-link.link c.in-Some.stored.now c.in_ok-map-in-Some.map
    c.requires.first c.requires.second (number_is c.args.members.now c.args.b c.index-members-b.result c.requires.second)
    (subst (λ ms. IsForcedBetween ms c.args.a c.args.b c.in_ok-link.link) c.of.ensures c.in_ok-link.ensures.forced)
    c.in-Some.ensures c.in_ok-map-in-Some.ensures.source c.in_ok-map-in-Some.ensures.target c.in_ok-map-in-Some.ensures.images)
    (e ∙ ap (λ m. c.args.maps.now.items ++ m ∷ []) c.in_ok-of_stored-in-Some.ensures)) c.add.ensures
