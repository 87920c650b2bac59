use Rattle.std.proofs.Common.{◌≡◌, ◌+◌, ◌*◌, ◌%◌, [], slice_index, slice_index_or, ap, ap₂, ◌∙◌, arith}
use Rattle.std.proofs.lemmas.List.{get_or_default}
use Rattle.ff_residues.specs.SumRows.{residue_at}
use Rattle.ff_residues.proofs.SumRows.{one_added}
use Rattle.ff_residues.proofs.sums.Sums.add_rows.Goals as goal

pub loop-i-preserved : goal.loop-i-preserved
loop-i-preserved g c =
    let p = c.args.self.now.prime in
    let xs = c.args.factors.now in
    let i = c.loop-i.i in
    let row : c.index-rows-i.result ≡ slice_index_or c.args.rows.now i [] = c.index-rows-i.is ∙ get_or_default c.args.rows.now i _ [] (omega arith) in
    record {
      same = c.add.ensures.prime ∙ c.loop-i.invariant.same;
      sums = λ k l. one_added p (residue_at c.args.self.now k) i
          (λ j. slice_index xs j * slice_index (slice_index_or c.args.rows.now j []) k) _ _
          (c.loop-i.invariant.sums k l)
          (let place : 0 + k ≡ k = omega arith in
          let added : residue_at c.add.new.self k ≡ (residue_at c.loop-i.self k
          + slice_index xs i * slice_index c.index-rows-i.result (0 + k)) % c.loop-i.self.prime =
          c.add.ensures.sums k l in
          added
          ∙ ap (λ m. (residue_at c.loop-i.self k + slice_index xs i * slice_index c.index-rows-i.result m)
          % c.loop-i.self.prime) place
          ∙ ap₂ (λ q r. (residue_at c.loop-i.self k + slice_index xs i * slice_index r k) % q)
          c.loop-i.invariant.same row);
    }
