use Rattle.std.proofs.Common.{◌∙◌, ◌++◌, ◌∷◌, [], ap, subst, sym}
use Prim.Native.Nat.{◌∣◌}
use Rattle.std.proofs.lemmas.Result.{on_ok_weaker}
use Rattle.alg_model.specs.Maps.{degree_of}
use Rattle.lat_world.specs.Worlds.{IsForcedBetween, map_at}
use Rattle.lat_fill.proofs.WayLists.{provides, link_way}
use Rattle.lat_fill.proofs.links.push_link.Goals as goal

pub link-requires-clause-divides : goal.link-requires-clause-divides
link-requires-clause-divides c = subst (λ ms. degree_of (map_at ms c.args.a).source ∣ degree_of (map_at ms c.args.b).source)
    (sym c.of.ensures) c.requires.goes

pub returns : goal.returns
returns c = on_ok_weaker c.add.result (λ e. provides _ c.requires.ways
    (link_way c.args.a c.args.b c.index-members-a.result c.index-members-b.result c.in_ok-map.map c.requires.first c.requires.second
    (subst (λ ms. IsForcedBetween ms c.args.a c.args.b c.in_ok-map.map) c.of.ensures c.in_ok-map.ensures.forced))
    (e ∙ ap (λ m. c.args.maps.now.items ++ m ∷ []) c.in_ok-of_stored.ensures)) c.add.ensures
