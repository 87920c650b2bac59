use Rattle.std.proofs.Common.{◌≡◌, ◌<◌, ℕ, List, length, All, refl, ap, sym, ◌∙◌, subst, arith}
use Rattle.std.proofs.lemmas.Bool.{true≢false}
use Rattle.alg_model.specs.Coefficients.{mod_ops, residues}
use Rattle.alg_model.specs.Matrices.{matrix_apply, IsColumn}
use Rattle.ff_matrix.specs.Echelons.{IsEchelonOf}
use Rattle.ff_matrix.specs.ModularMatrix.{ModularMatrix}
use Rattle.ff_matrix.proofs.EchelonConsequences.{above_one, same_width, column_of_each, solution_read, no_solution_read}
use Rattle.ff_matrix.proofs.echelon.Echelon.solve.Goals as goal

pub returns-then-has_nonzero-clause-none : goal.returns-then-has_nonzero-clause-none
returns-then-has_nonzero-clause-none c = λ m h.
    let (n, g, v) = c.requires in
    let (i, low, high, nonzero) = c.if-has_nonzero.ensures.found refl in (
      λ _. no_solution_read m c.args.self.now h c.args.b.now c.numbers.result.now (column_of_each n m c.args.self.now g h c.args.b.now v)
          (c.numbers.ensures.value ∙ c.apply-target.ensures.value) i
          (omega (arith, ap length c.numbers-pivots.ensures.value))
          (omega (arith, ap length c.numbers.ensures.value, c.apply-target.ensures.column.0, h.reduction.square.0)) nonzero,
      λ _. refl,
    )

module _ (c : goal.After-of_slice) (m : ModularMatrix) (h : IsEchelonOf m c.args.self.now) where
  below : All (λ y. y < m.prime) c.numbers-2.result.now
  below =
      let Below : ℕ → Type 0 = λ p. All (λ y. y < p) c.apply-target.result in
      let Valid : List ℕ → Type 0 = λ ys. All (λ y. y < m.prime) ys in
      subst Valid (sym c.numbers-2.ensures.value) (subst Below h.transform_prime c.apply-target.ensures.column.1)

  column : IsColumn (residues m.prime) (length m.matrix.columns) c.spread.result.items
  column = (
    c.spread.ensures.long ∙ c.columns-columns.ensures.value ∙ same_width m c.args.self.now h,
    c.spread.ensures.residues m.prime (omega (arith, above_one m c.args.self.now h)) below,
  )

  reached : matrix_apply (mod_ops m.prime) m.matrix c.spread.result.items ≡ c.args.b.now
  reached =
      let (n, g, v) = c.requires in
      solution_read m c.args.self.now h c.args.b.now c.apply-target.result (column_of_each n m c.args.self.now g h c.args.b.now v)
      c.apply-target.ensures.value c.spread.result.items column
      (λ i l. rw (c.numbers-pivots.ensures.value, c.numbers-2.ensures.value) at (c.spread.ensures.at i (omega (arith, ap length c.numbers-pivots.ensures.value))))
      (λ k none. c.spread.ensures.zero k (λ i l. rw c.numbers-pivots.ensures.value (none i (omega (arith, ap length c.numbers-pivots.ensures.value)))))
      (λ i l ln. rw c.numbers.ensures.value at (c.if-has_nonzero.ensures.none refl i (omega (arith, ap length c.numbers-pivots.ensures.value))
      (omega (arith, ap length c.numbers.ensures.value, c.apply-target.ensures.column.0, h.reduction.square.0))))

  -- what was spread is a solution
  solved : IsColumn (residues m.prime) (length m.matrix.columns) c.of_slice.result × (matrix_apply (mod_ops m.prime) m.matrix c.of_slice.result ≡ c.args.b.now)
  solved =
      let Solves : List ℕ → Type 0 = λ y. IsColumn (residues m.prime) (length m.matrix.columns) y × (matrix_apply (mod_ops m.prime) m.matrix y ≡ c.args.b.now) in
      subst Solves (sym (c.of_slice.ensures ∙ c.deref.ensures.0)) (column, reached)

pub returns-clause-some : goal.returns-clause-some
returns-clause-some c = λ m h. solved c m h

pub returns-clause-none : goal.returns-clause-none
returns-clause-none c = λ m h. (λ e. absurd (true≢false e), λ none. absurd (none c.of_slice.result (solved c m h).0 (solved c m h).1))
