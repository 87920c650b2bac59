use Rattle.std.proofs.Common.{◌≡◌, ◌+◌, ◌-◌, ◌*◌, ◌%◌, slice_index, ap₂, ◌∙◌, arith}
use Rattle.ff_residues.specs.SumRows.{residue_at}
use Rattle.ff_residues.proofs.SumRows.{one_added}
use Rattle.ff_residues.proofs.sums.Sums.add_shifted.Goals as goal

pub loop-i-preserved : goal.loop-i-preserved
loop-i-preserved g c =
    let p = c.args.self.now.prime in
    let xs = c.args.factors.now in
    let ys = c.args.list.now in
    let i = c.loop-i.i in
    record {
      same = c.add.ensures.prime ∙ c.loop-i.invariant.same;
      sums = λ k l. let place : c.args.start - i + k ≡ c.args.start + k - i = omega arith in
          one_added p (residue_at c.args.self.now k) i
          (λ j. slice_index xs j * slice_index ys (c.args.start + k - j)) _ _
          (c.loop-i.invariant.sums k l)
          (c.add.ensures.sums k l
          ∙ ap₂ (λ q m. (residue_at c.loop-i.self k + slice_index xs i * slice_index ys m) % q)
          c.loop-i.invariant.same place);
    }
