use Rattle.std.proofs.Common.{◌≡◌, ◌<◌, ◌+◌, ap, sym, subst, length, arith}
use Rattle.lat_fill.specs.PrivateListing.{AreListed}
use Rattle.lat_fill.proofs.MemberLists.{list_past}
use Rattle.lat_fill.proofs.members.members_by.Goals as goal
use Rattle.lat_fill.proofs.members.members_by.Goals.{then-is_member+in_ok-list_member, else-is_member}

pub loop-number-preserved : goal.loop-number-preserved
loop-number-preserved c =
    let listed = AreListed c.args.lattice.now c.args.from c.args.into c.args.phi.now.images c.args.lattice.now.rows (c.loop-number.number + 1) in
    let end : c.loop-number.number < length c.args.lattice.now.rows = omega (arith, c.loop-number-test.true, c.fields-number-end.ensures.value) in
    elim c.if-is_member.branch [
      | then-is_member+in_ok-list_member w ↦ subst listed (sym (ap (λ v. v.items) w.members-is)) w.in_ok-list_member.ensures
      | else-is_member w ↦ subst listed (sym (ap (λ v. v.items) w.members-is))
          (list_past c.loop-number.invariant end (λ m. let t = c.is_member.ensures.1 m in let f = w.if-is_member.false in cc))
    ]

pub returns : goal.returns
returns c =
    let end : c.loop-number.number ≡ length c.args.lattice.now.rows = omega (arith, c.fields-number-end.ensures.value) in
    subst (λ n. AreListed c.args.lattice.now c.args.from c.args.into c.args.phi.now.images c.args.lattice.now.rows n c.loop-number.members.items) end
    c.loop-number.invariant
