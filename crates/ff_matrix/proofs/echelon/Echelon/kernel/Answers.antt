use Rattle.std.proofs.Common.{length, ap, ◌∙◌, arith}
use Rattle.ff_matrix.proofs.EchelonConsequences.{kernel_read}
use Rattle.ff_matrix.proofs.echelon.Echelon.kernel.Goals as goal

pub returns : goal.returns
returns c = λ m h.
    kernel_read m c.args.self.now h c.free_columns-free.result c.kernel_columns.result
    (rw (c.columns.ensures.value, c.numbers-pivots.ensures.value) at c.free_columns-free.ensures)
    (c.kernel_columns.ensures.count ∙ ap length c.numbers.ensures.value)
    (λ t l. rw (c.numbers-pivots.ensures.value, c.numbers.ensures.value) at (c.kernel_columns.ensures.columns t (omega (arith, ap length c.numbers.ensures.value))))
