use Rattle.std.proofs.Common.{ℕ, [], ◌∷◌, ◌++◌, length, get_or, ap, sym, subst, ⊎_elim, arith}
use Rattle.std.proofs.lemmas.Bool.{cases_eq}
use Rattle.std.proofs.lemmas.List.{length_push, get_or_append_left, get_or_push}
use Rattle.ff_matrix.specs.PrivateRows.{IsKernelColumn}
use Rattle.ff_matrix.proofs.solutions.kernel_columns.Goals as goal

pub loop-f-preserved : goal.loop-f-preserved
loop-f-preserved c = record {
  count = omega (arith, ap length c.push.ensures, length_push c.loop-f.basis c.kernel_column.result, c.loop-f.invariant.count);
  columns = λ t l. rw c.push.ensures (⊎_elim
      (λ e. let P : ℕ → Type 0 = λ k. IsKernelColumn c.args.form.now.prime c.args.form.now.matrix c.args.pivots.now (get_or c.args.free.now k 0)
      (get_or (c.loop-f.basis ++ c.kernel_column.result ∷ []) k []) in
      subst P (sym e) (rw (get_or_push c.loop-f.basis c.kernel_column.result [] c.loop-f.f-index c.loop-f.invariant.count) c.kernel_column.ensures))
      (λ d. rw (get_or_append_left c.loop-f.basis (c.kernel_column.result ∷ []) [] t (omega (arith, c.loop-f.invariant.count))) (c.loop-f.invariant.columns t (omega arith)))
      (cases_eq t c.loop-f.f-index));
}
