use Rattle.std.proofs.Common.{◌≡◌, Some, None, slice_index_or, subst}
use Rattle.lat_fill.proofs.ExitTables.{degree_is, exits_kept, exits_opened}
use Rattle.lat_fill.proofs.exits.add_exit.Goals as goal

pub returns-in-Some : goal.returns-in-Some
returns-in-Some c =
    let known : slice_index_or c.args.exits.now c.source_degree-degree.result None ≡ Some c.in-Some.field-0 = c.in-Some.is in
    exits_kept c.requires.exits c.in-Some.field-0 (subst (λ d. slice_index_or c.args.exits.now d None ≡ Some c.in-Some.field-0)
    (degree_is c.args.members.now c.args.b c.source_degree-degree.result c.index-members-b.result c.requires.place c.source_degree-degree.ensures.value)
    known)

pub returns-in-None : goal.returns-in-None
returns-in-None c = exits_opened c.requires.exits c.source_degree-degree.result c.open.new.exits
    (degree_is c.args.members.now c.args.b c.source_degree-degree.result c.index-members-b.result c.requires.place c.source_degree-degree.ensures.value)
    c.requires.leads c.open.ensures.count c.open.ensures.divisors c.open.ensures.others
