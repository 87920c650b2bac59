use Rattle.std.proofs.Common.{◌≡◌, ◌+◌, ◌-◌, ◌*◌, ◌%◌, ◌<◌, [], length, slice_index, slice_index_or, ap, sym, ◌∙◌, subst, arith}
use Rattle.std.proofs.lemmas.Nat.{mod_below}
use Rattle.std.proofs.lemmas.List.{get_or_default}
use Rattle.ff_residues.specs.SumRows.{residue_at}
use Rattle.ff_minpoly.proofs.Spans.{column_noted, one_reducing, reducing_done}
use Rattle.ff_minpoly.proofs.elimination.reduced.Goals as goal

pub loop-i-init : goal.loop-i-init
loop-i-init g c = record {
  prime = c.of-row.ensures.prime;
  reducing = λ m col S. record {
    noted = column_noted g.row.W c.args.p m col c.args.column.now (residue_at c.of-row.result) S.fits
        (λ k l. c.of-row.ensures.residues k ∙ c.row_of.ensures.places k);
    zero_below = λ j l. absurd (omega arith);
  };
}

pub loop-i-preserved : goal.loop-i-preserved
loop-i-preserved g c = record {
  prime = c.clear_place.ensures.prime;
  reducing = λ m col S.
      let p = c.args.p in
      let i = c.loop-i.i in
      let n = length c.args.column.now in
      let r = residue_at c.loop-i.row in
      let place = slice_index c.args.pivots.now i in
      let positive : 0 < p = omega (arith, c.number-number.ensures.small, c.number-number.ensures.value) in
      let row_is : c.index-rows-i.result ≡ slice_index_or c.args.rows.now i [] =
      c.index-rows-i.is ∙ get_or_default c.args.rows.now i c.index-rows-i.result [] (omega (arith, c.loop-i-test.true, c.requires.count)) in
      one_reducing g.row.W p n m i col c.args.rows.now c.args.pivots.now (slice_index c.args.column.now) r
      (residue_at c.clear_place.new.row) c.loop-i-test.true S
      (subst (λ q. slice_index c.loop-i.row.sums place % q < p) (sym c.loop-i.invariant.prime)
      (mod_below (slice_index c.loop-i.row.sums place) p positive))
      (λ k l. c.clear_place.ensures.cleared k l
      ∙ ap (λ row. (r k + (p - r place) % p * slice_index row k) % p) row_is)
      (c.loop-i.invariant.reducing m col S);
}

pub returns-clause-reduced : goal.returns-clause-reduced
returns-clause-reduced g c m col S =
    reducing_done g.row.W c.args.p (length c.args.column.now) m col c.args.pivots.now c.loop-i.i
    (slice_index c.args.column.now) (residue_at c.loop-i.row) (slice_index c.row.result)
    c.loop-i-test.false c.row.ensures.row (c.loop-i.invariant.reducing m col S)
