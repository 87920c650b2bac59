use Rattle.std.proofs.Common.{refl, sym, ap, ◌∙◌}
use Rattle.alg_model.specs.Maps.{degree_of}
use Rattle.lat_world.proofs.WorldLemmas.{map_of_place, one_target, divided, not_divided}
use Rattle.lat_world.proofs.worlds.World.forced.Goals as goal

pub returns-then-source_degree-ne0-clause-some : goal.returns-then-source_degree-ne0-clause-some
returns-then-source_degree-ne0-clause-some c = (
  λ e. cc,
  λ d. absurd (not_divided
      (c.source_degree.ensures.value ∙ ap (λ m. degree_of m.source) (map_of_place c.index-members-b.result c.members-members.ensures.value c.requires.second))
      (c.source_degree-2.ensures.value ∙ ap (λ m. degree_of m.source) (map_of_place c.index-members-a.result c.members-members.ensures.value c.requires.first))
      c.if-source_degree-ne0.true d),
)

pub through-requires-clause-target : goal.through-requires-clause-target
through-requires-clause-target c =
    ap (λ m. m.target) (map_of_place c.index-members-a.result c.members-members.ensures.value c.requires.first)
    ∙ one_target c.members-members.ensures.whole c.args.a c.args.b c.requires.first c.requires.second
    ∙ sym (ap (λ m. m.target) (map_of_place c.index-members-b.result c.members-members.ensures.value c.requires.second))

pub returns-clause-some : goal.returns-clause-some
returns-clause-some c = (
  λ e. divided
      (c.source_degree.ensures.value ∙ ap (λ m. degree_of m.source) (map_of_place c.index-members-b.result c.members-members.ensures.value c.requires.second))
      (c.source_degree-2.ensures.value ∙ ap (λ m. degree_of m.source) (map_of_place c.index-members-a.result c.members-members.ensures.value c.requires.first))
      c.if-source_degree-ne0.false,
  λ d. refl,
)
