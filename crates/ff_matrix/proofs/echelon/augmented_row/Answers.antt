use Rattle.std.proofs.Common.{ℕ, ◌<◌, arith}
use Rattle.std.proofs.lemmas.List.{length-replicate}
use Rattle.std.proofs.lemmas.List.Elements.{All-replicate}
use Rattle.ff_matrix.proofs.RowPlaces.{zeros_at}
use Rattle.ff_matrix.proofs.echelon.augmented_row.Goals as goal

pub loop-k-init : goal.loop-k-init
loop-k-init g c = rw c.blank_row-row.ensures record {
  long = length-replicate {A = ℕ} g.row.W 0;
  done = λ k l. absurd (omega arith);
  rest = λ k l. zeros_at g.row.W k;
  residues = All-replicate (λ x. x < c.args.m.now.prime) g.row.W 0 (omega (arith, c.number-number.ensures.small, c.number-number.ensures.value, c.prime.ensures.value));
}
