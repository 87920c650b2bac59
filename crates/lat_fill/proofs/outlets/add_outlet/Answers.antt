use Rattle.std.proofs.Common.{◌≡◌, Some, None, refl, slice_index_or, subst}
use Rattle.lat_fill.proofs.ExitTables.{degree_is, exit_at, none_at}
use Rattle.lat_fill.proofs.WayLists.{provides_stored}
use Rattle.lat_fill.proofs.outlets.add_outlet.Goals as goal

pub returns-in-None : goal.returns-in-None
returns-in-None c =
    let none : slice_index_or c.args.exits.now c.source_degree-degree.result None ≡ None = c.in-None.is in
    provides_stored c.requires.ways (λ r. absurd (none_at c.requires.exits c.args.a
    (subst (λ d. slice_index_or c.args.exits.now d None ≡ None)
    (degree_is c.args.members.now c.args.a c.source_degree-degree.result c.index-members-a.result c.requires.place c.source_degree-degree.ensures.value)
    none) r)) refl

pub add_outlet_through-requires-clause-second : goal.add_outlet_through-requires-clause-second
add_outlet_through-requires-clause-second c = c.requires.exits.below _ c.in-Some.b c.in-Some.is

pub add_outlet_through-requires-clause-exit : goal.add_outlet_through-requires-clause-exit
add_outlet_through-requires-clause-exit c = exit_at c.requires.exits c.args.a c.in-Some.b
    (subst (λ d. slice_index_or c.args.exits.now d None ≡ Some c.in-Some.b)
    (degree_is c.args.members.now c.args.a c.source_degree-degree.result c.index-members-a.result c.requires.place c.source_degree-degree.ensures.value)
    c.in-Some.is)
