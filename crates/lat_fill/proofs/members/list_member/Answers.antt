use Rattle.std.proofs.Common.{◌+◌, sym, subst, refl}
use Rattle.std.specs.Prelude.{MatchOption, Option}
use Rattle.alg_model.specs.Candidates.{IsMember}
use Rattle.alg_model.specs.Filling.{IsMapInto}
use Rattle.lat_core.specs.SharedRows.{IsBetween}
use Rattle.ff_embed.specs.SmallEmbeddings.{FieldMap}
use Rattle.lat_fill.specs.PrivateListing.{AreListed}
use Rattle.lat_fill.proofs.MemberLists.{list_more, list_past}
use Rattle.lat_fill.proofs.members.list_member.Goals as goal

pub returns-in_ok-push : goal.returns-in_ok-push
returns-in_ok-push c =
    let L = c.args.lattice.now in
    let i = c.args.number in
    let listed = AreListed L c.args.from c.args.into c.args.phi.now.images L.rows (i + 1) in
    let (first, second) = subst
    (λ (r : Option FieldMap). MatchOption r (IsMember L c.args.from c.args.into i → ⊥)
    (λ e. IsMapInto L c.args.from c.args.into c.args.phi.now.images L.rows i e.images
    × IsBetween L.rows i c.args.into e)) c.in-Some.is c.in_ok-map.ensures in
    subst listed (sym c.in_ok-push.ensures.items)
    (list_more c.requires.listed (record { number = i; map = c.in-Some.map }) refl first second)

pub returns-in_default : goal.returns-in_default
returns-in_default c =
    let L = c.args.lattice.now in
    let i = c.args.number in
    list_past c.requires.listed c.requires.within
    (subst
    (λ (r : Option FieldMap). MatchOption r (IsMember L c.args.from c.args.into i → ⊥)
    (λ e. IsMapInto L c.args.from c.args.into c.args.phi.now.images L.rows i e.images
    × IsBetween L.rows i c.args.into e)) c.in_default.is c.in_ok-map.ensures)
