use Rattle.std.proofs.Common.{◌≡◌, ℕ, length, map, take, refl, ap, ◌∙◌, subst, arith}
use Rattle.std.proofs.lemmas.Bool.{true≢false}
use Rattle.std.proofs.lemmas.List.{length-map}
use Rattle.alg_model.specs.Coefficients.{mod_ops, residues}
use Rattle.alg_model.specs.Matrices.{matrix_product, identity_matrix, IsMatrix}
use Rattle.ff_matrix.specs.Echelons.{IsEchelonOf}
use Rattle.ff_matrix.specs.ModularMatrix.{ModularMatrix}
use Rattle.ff_matrix.proofs.EchelonConsequences.{same_width, left_inverse_read, independent_read, dependent_read}
use Rattle.ff_matrix.proofs.echelon.Echelon.left_inverse.Goals as goal

pub returns-then-numbers-columns-clause-none : goal.returns-then-numbers-columns-clause-none
returns-then-numbers-columns-clause-none c = λ m h. (
  λ _. dependent_read m c.args.self.now h (omega (arith, ap length c.numbers.ensures.value, c.columns-columns.ensures.value, same_width m c.args.self.now h)),
  λ _. refl,
)

module _ (c : goal.After-top_rows) (m : ModularMatrix) (h : IsEchelonOf m c.args.self.now) where
  width : c.columns-columns.result ≡ length m.matrix.columns
  width = c.columns-columns.ensures.value ∙ same_width m c.args.self.now h

  valid : IsMatrix (residues m.prime) c.top_rows.result.matrix
  valid =
      let Valid : ℕ → Type 0 = λ p. IsMatrix (residues p) c.top_rows.result.matrix in
      subst Valid (c.top_rows.ensures.prime ∙ h.transform_prime) c.top_rows.ensures.whole.entries

  count : length c.top_rows.result.matrix.columns ≡ m.matrix.rows
  count = ap length c.top_rows.ensures.columns ∙ length-map _ _ ∙ h.reduction.square.1

  inverse : matrix_product (mod_ops m.prime) c.top_rows.result.matrix m.matrix ≡ identity_matrix (mod_ops m.prime) (length m.matrix.columns)
  inverse =
      left_inverse_read m c.args.self.now h c.top_rows.result.matrix (omega (arith, ap length c.numbers.ensures.value, width))
      (c.top_rows.ensures.rows ∙ width) valid
      (c.top_rows.ensures.columns ∙ ap (λ n. map (take n) c.args.self.now.transform.matrix.columns) width)

pub returns-clause-some : goal.returns-clause-some
returns-clause-some c = λ m h. (c.top_rows.ensures.prime ∙ h.transform_prime, count c m h, inverse c m h)

pub returns-clause-none : goal.returns-clause-none
returns-clause-none c = λ m h. (
  λ e. absurd (true≢false e),
  λ dependent. absurd (dependent (independent_read m c.args.self.now h c.top_rows.result.matrix (valid c m h) (count c m h) (inverse c m h))),
)
