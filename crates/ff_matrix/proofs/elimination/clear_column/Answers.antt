use Rattle.std.proofs.Common.{◌≡◌, refl, arith}
use Rattle.std.proofs.lemmas.List.Elements.{All-set}
use Rattle.ff_matrix.specs.PrivateRows.{residue_rows}
use Rattle.ff_matrix.proofs.RowPlaces.{cleared_none}
use Rattle.ff_matrix.proofs.ResidueRows.{row_of_sums, sums_are_rows, cleared_more_sums}
use Rattle.ff_matrix.proofs.elimination.clear_column.Goals as goal
use Rattle.ff_matrix.proofs.elimination.clear_column.Goals.{then-i-pivot, else-i-pivot}

pub loop-i-init : goal.loop-i-init
loop-i-init g c = record {
  sums = c.requires.sums;
  cleared = record {
    residues = sums_are_rows g.row.W c.args.p c.args.rows.now (omega (arith, c.number-number.ensures.small, c.number-number.ensures.value)) c.requires.sums;
    source_is = row_of_sums g.row.W c.args.pivot c.args.rows.now c.index-rows-pivot.result c.row-source.result c.requires.pivot
        c.row-source.ensures.len c.row-source.ensures.row;
    pivot_row = refl;
    before = λ k l d. absurd (omega arith);
    after = λ k l. refl;
  };
}

pub loop-i-preserved : goal.loop-i-preserved
loop-i-preserved g c = elim c.if-i-pivot.branch [
  | then-i-pivot w ↦ rw w.rows-is record {
    sums = All-set (λ s. s.prime ≡ c.args.p) c.loop-i.rows c.loop-i.i w.clear_row.new.row w.clear_row.ensures.prime c.loop-i.invariant.sums;
    cleared = cleared_more_sums g.row.W c.args.p c.args.column c.args.pivot c.loop-i.i c.row-source.result (residue_rows g.row.W c.args.rows.now) c.loop-i.rows
        w.index-rows-i.result w.clear_row.new.row
        (omega (arith, c.number-number.ensures.small, c.number-number.ensures.value)) w.if-i-pivot.true
        (omega (arith, c.loop-i-test.true, c.loop-i.auto.rows)) w.clear_row.ensures.prime w.clear_row.ensures.cleared c.loop-i.invariant.cleared;
  }
  | else-i-pivot w ↦ rw w.rows-is record {
    sums = c.loop-i.invariant.sums;
    cleared = cleared_none g.row.W c.args.p c.args.column c.args.pivot c.loop-i.i c.row-source.result (residue_rows g.row.W c.args.rows.now) (residue_rows g.row.W c.loop-i.rows)
        w.if-i-pivot.false c.loop-i.invariant.cleared;
  }
]
