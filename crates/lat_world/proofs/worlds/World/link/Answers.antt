use Rattle.std.proofs.Common.{sym, ap, ◌∙◌}
use Rattle.lat_world.proofs.WorldLemmas.{map_of_place, one_target, divides_places}
use Rattle.lat_world.proofs.worlds.World.link.Goals as goal

pub through-requires-clause-target : goal.through-requires-clause-target
through-requires-clause-target c =
    ap (λ m. m.target) (map_of_place c.index-members-a.result c.members-members.ensures.value c.requires.first)
    ∙ one_target c.members-members.ensures.whole c.args.a c.args.b c.requires.first c.requires.second
    ∙ sym (ap (λ m. m.target) (map_of_place c.index-members-b.result c.members-members.ensures.value c.requires.second))

pub through-requires-clause-divides : goal.through-requires-clause-divides
through-requires-clause-divides c = divides_places
    (map_of_place c.index-members-a.result c.members-members.ensures.value c.requires.first)
    (map_of_place c.index-members-b.result c.members-members.ensures.value c.requires.second)
    c.requires.divides
