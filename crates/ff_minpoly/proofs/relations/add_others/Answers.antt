use Rattle.std.proofs.Common.{◌≡◌, ◌+◌, [], length, slice_index, slice_index_or, ap, sym, ◌∙◌, subst, arith}
use Rattle.std.proofs.lemmas.List.{get_or_default}
use Rattle.ff_minpoly.specs.PrivateSpans.{IsTable, IsSpan}
use Rattle.ff_minpoly.proofs.relations.add_others.Goals as goal

pub loop-i-preserved : goal.loop-i-preserved
loop-i-preserved g c =
    let w = g.row.W in
    let p = c.args.p in
    let n = c.args.n in
    let m = c.args.m in
    let i = c.loop-i.i in
    let block = c.args.block.now in
    let column = c.digits.result.now in
    let within = c.loop-i-test.true in
    let is : column ≡ slice_index_or block i [] =
    c.digits.ensures.value ∙ c.index-block-i.is ∙ get_or_default block i c.index-block-i.result [] within in
    let long : length column ≡ n = ap length is ∙ (c.requires.values i [] within).0 in
    let more : m + i + 1 ≡ m + (i + 1) = omega arith in
    record {
      len = c.add_column.ensures.len ∙ c.loop-i.invariant.len;
      table = subst (λ q. IsTable w p n q c.add_column.new.rows c.add_column.new.pivots) more
          (subst (λ q. IsTable w p q (m + i + 1) c.add_column.new.rows c.add_column.new.pivots) long
          c.add_column.ensures.table);
      added = λ col S h.
          subst (λ q. IsSpan w p n q col c.add_column.new.rows c.add_column.new.pivots) more
          (subst (λ q. IsSpan w p q (m + i + 1) col c.add_column.new.rows c.add_column.new.pivots) long
          (c.add_column.ensures.added col
          (subst (λ q. IsSpan w p q (m + i) col c.loop-i.rows c.loop-i.pivots) (sym long)
          (c.loop-i.invariant.added col S h))
          (λ k l. ap (λ v. slice_index v k) is ∙ h i k within (omega (arith, long)))));
    }

pub returns-clause-added : goal.returns-clause-added
returns-clause-added g c col S h =
    let done : c.loop-i.i ≡ length c.args.block.now =
    omega (arith, c.loop-i-test.false, c.loop-i.auto.i-end, c.requires.some) in
    subst (λ q. IsSpan g.row.W c.args.p c.args.n (c.args.m + q) col c.loop-i.rows c.loop-i.pivots) done
    (c.loop-i.invariant.added col S h)
