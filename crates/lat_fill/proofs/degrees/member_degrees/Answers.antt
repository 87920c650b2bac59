use Rattle.std.proofs.Common.{◌<◌, ◌≤◌, ◌+◌, true, false, [], ◌∷◌, ◌++◌, ◌≡◌, length, ap, sym, ◌∙◌, subst, All, arith, rules, length-append}
use Rattle.std.proofs.lemmas.List.Elements.{All-push}
use Rattle.lat_fill.specs.PrivateListing.{AreDegreesBelow, IsSmallDegree}
use Rattle.lat_fill.proofs.DegreeLists.{degrees_push, degrees_skip, degrees_all, few_fields}
use Rattle.lat_fill.proofs.degrees.member_degrees.Goals as goal
use Rattle.lat_fill.proofs.degrees.member_degrees.Goals.{then-is_member, else-is_member}

pub push-requires : goal.push-requires
push-requires c =
    let few : length c.args.lattice.now.rows ≤ 200 = few_fields c.edition-edition.result c.edition-edition.ensures.value c.edition-edition.ensures.whole in
    let end : c.fields-number-end.result ≡ length c.args.lattice.now.rows = c.fields-number-end.ensures.value in
    let room : length c.loop-number.degrees.items < 200 = omega (arith, few, end, c.loop-number-test.true, c.loop-number.invariant.count) in
    (search rules, room)

pub loop-number-preserved : goal.loop-number-preserved
loop-number-preserved c =
    let below = AreDegreesBelow c.args.lattice.now c.args.from c.args.into (c.loop-number.number + 1) in
    elim c.if-is_member.branch [
      | then-is_member w ↦
          let e : c.if-is_member.degrees.items ≡ c.loop-number.degrees.items ++ w.degree_at.result ∷ [] = ap (λ v. v.items) w.degrees-is ∙ w.push.ensures.items in
          record {
            below = subst below (sym e) (degrees_push c.loop-number.degrees.items w.degree_at.result c.loop-number.invariant.below
                (c.is_member.ensures.0 w.if-is_member.true) w.degree_at.ensures.value);
            small = subst (All IsSmallDegree) (sym e) (All-push IsSmallDegree c.loop-number.degrees.items w.degree_at.result c.loop-number.invariant.small w.degree_at.ensures.small);
            count = omega (arith, ap length e, length-append c.loop-number.degrees.items (w.degree_at.result ∷ []), c.loop-number.invariant.count);
          }
      | else-is_member w ↦
          let e : c.if-is_member.degrees.items ≡ c.loop-number.degrees.items = ap (λ v. v.items) w.degrees-is in
          record {
            below = subst below (sym e) (degrees_skip c.loop-number.degrees.items c.loop-number.invariant.below
                (λ m. let t : c.is_member.result ≡ true = c.is_member.ensures.1 m in let f : c.is_member.result ≡ false = w.if-is_member.false in cc));
            small = subst (All IsSmallDegree) (sym e) c.loop-number.invariant.small;
            count = omega (arith, ap length e, c.loop-number.invariant.count);
          }
    ]

pub returns-clause-degrees : goal.returns-clause-degrees
returns-clause-degrees c =
    let end : c.loop-number.number ≡ length c.args.lattice.now.rows = omega (arith, c.fields-number-end.ensures.value) in
    degrees_all c.fields-number-end.ensures.whole c.loop-number.degrees.items
    (subst (λ n. AreDegreesBelow c.args.lattice.now c.args.from c.args.into n c.loop-number.degrees.items) end c.loop-number.invariant.below)
