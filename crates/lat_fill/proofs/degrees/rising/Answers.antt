use Rattle.std.proofs.Common.{◌≤◌, ◌≡◌, ◌+◌, ◌∷◌, ◌++◌, true, false, [], length, length-append, ap, sym, ◌∙◌, subst, All, arith}
use Rattle.std.proofs.lemmas.List.Elements.{All-push, All-nil}
use Rattle.lat_fill.specs.PrivateListing.{IsSmallDegree}
use Rattle.lat_fill.proofs.DegreeLists.{IsRisingBelow, rising_none, rising_push, rising_skip}
use Rattle.lat_fill.proofs.degrees.rising.Goals as goal
use Rattle.lat_fill.proofs.degrees.rising.Goals.{then-holds, else-holds}

pub loop-degree-init : goal.loop-degree-init
loop-degree-init c = record {
  list = rising_none c.requires c.new-degrees.ensures;
  small = subst (All IsSmallDegree) (sym c.new-degrees.ensures) (All-nil IsSmallDegree);
  count = omega (arith, ap length c.new-degrees.ensures);
}

pub loop-degree-preserved : goal.loop-degree-preserved
loop-degree-preserved c =
    let list = IsRisingBelow c.args.set.now (c.loop-degree.degree + 1) in
    elim c.if-holds.branch [
      | then-holds w ↦
          let e : c.if-holds.degrees.items ≡ c.loop-degree.degrees.items ++ c.loop-degree.degree ∷ [] = ap (λ v. v.items) w.degrees-is ∙ w.push.ensures.items in
          let held = c.holds.ensures.0 w.if-holds.true in
          record {
            list = subst list (sym e) (rising_push c.loop-degree.invariant.list held);
            small = subst (All IsSmallDegree) (sym e) (All-push IsSmallDegree c.loop-degree.degrees.items c.loop-degree.degree c.loop-degree.invariant.small
                (c.requires c.loop-degree.degree held));
            count = omega (arith, ap length e, length-append c.loop-degree.degrees.items (c.loop-degree.degree ∷ []), c.loop-degree.invariant.count);
          }
      | else-holds w ↦
          let e : c.if-holds.degrees.items ≡ c.loop-degree.degrees.items = ap (λ v. v.items) w.degrees-is in
          record {
            list = subst list (sym e) (rising_skip c.loop-degree.invariant.list
                (λ m. let t : c.holds.result ≡ true = c.holds.ensures.1 m in let f : c.holds.result ≡ false = w.if-holds.false in cc));
            small = subst (All IsSmallDegree) (sym e) c.loop-degree.invariant.small;
            count = omega (arith, ap length e, c.loop-degree.invariant.count);
          }
    ]

pub returns-clause-exactly : goal.returns-clause-exactly
returns-clause-exactly c = λ d.
    let e = c.loop-degree.invariant.list.exactly d in (
      λ h. (e.0 h).1,
      λ h. let s : d ≤ 48 = (c.requires d h).1 in e.1 (omega (arith, s, c.loop-degree-test.false), h),
    )
