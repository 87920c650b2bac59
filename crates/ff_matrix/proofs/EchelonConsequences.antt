-- What the reduced form of a matrix modulo a prime says, from what the functions give.
use Rattle.std.proofs.Common.{◌≡◌, ◌≢◌, ◌⊎◌, ℕ, zero, suc, ◌<◌, ◌≤◌, List, [], ◌∷◌, length, map, take, get_or, All, ap, sym, ◌∙◌, subst, inl, inr, ⊎_elim, arith}
use Rattle.std.proofs.lemmas.Bool.{cases_eq, cases_lt}
use Rattle.std.proofs.lemmas.List.{get_or-map, length-map, get_or-take}
use Rattle.std.proofs.lemmas.List.Elements.{All-from_get_or}
use Rattle.alg_model.specs.Coefficients.{Carrier, mod_ops, residues}
use Rattle.alg_model.specs.Fields.{IsRing}
use Rattle.alg_model.specs.Matrices.{Matrix, column_at, matrix_apply, matrix_product, identity_matrix, IsColumn, IsMatrix, IsIndependent, IsKernelBasis}
use Rattle.alg_rings.proofs.Residues.{residues_ring}
use Rattle.alg_linear.specs.PrivateGrids
use Rattle.alg_linear.proofs.Grids.{delta_same, delta_other}
use Rattle.alg_linear.specs.PrivateGrids.{AreFree}
use Rattle.alg_linear.proofs.Solutions.{rising_few}
use Rattle.alg_linear.proofs.Echelons.{form_rows, form_columns}
use Rattle.alg_linear.proofs.Kernels
use Rattle.ff_residues.proofs.Characteristics.{characteristic_small}
use Rattle.ff_matrix.specs.declared.echelon.Echelon.{Echelon}
use Rattle.ff_matrix.specs.Echelons.{IsEchelonOf}
use Rattle.ff_matrix.specs.ModularMatrix.{ModularMatrix}
use Rattle.ff_matrix.specs.PrivateRows.{ArePlaces, IsKernelColumn}
use Rattle.alg_rings.proofs.ResidueFields.{residues_propositional}

-- a number stands at a place of the list, or at none
pub place_or_not : (xs : List ℕ) (k : ℕ) → ((i : ℕ) × (i < length xs) × (get_or xs i 0 ≡ k)) ⊎ ((i : ℕ) → i < length xs → get_or xs i 0 ≢ k)
place_or_not [] k = inr (λ i l. absurd (omega arith))
place_or_not (x ∷ xs) k = ⊎_elim (λ e. inl (0, omega arith, e))
    (λ d. ⊎_elim (λ (i, l, e). inl (suc i, omega arith, e)) (λ none. inr (first d none)) (place_or_not xs k)) (cases_eq x k)
  where
    first : x ≢ k → ((i : ℕ) → i < length xs → get_or xs i 0 ≢ k) → (i : ℕ) → i < length (x ∷ xs) → get_or (x ∷ xs) i 0 ≢ k
    first d none zero l = d
    first d none (suc i) l = none i (omega arith)

module _ (m : ModularMatrix) (e : Echelon) (h : IsEchelonOf m e) where
  abbrev p : ℕ
  p = m.prime

  abbrev c : Carrier ℕ
  c = residues m.prime

  abbrev width : ℕ
  width = length m.matrix.columns

  abbrev n : ℕ
  n = m.matrix.rows

  pub above_one : 1 < m.prime
  above_one = (characteristic_small m.prime h.matrix.characteristic).0

  abbrev R : IsRing (residues m.prime)
  R = residues_ring m.prime above_one

  form_valid : IsMatrix (residues m.prime) e.form.matrix
  form_valid = subst (λ q. IsMatrix (residues q) e.form.matrix) h.form_prime h.form.entries

  transform_valid : IsMatrix (residues m.prime) e.transform.matrix
  transform_valid = subst (λ q. IsMatrix (residues q) e.transform.matrix) h.transform_prime h.transform.entries

  pub same_width : length e.form.matrix.columns ≡ length m.matrix.columns
  same_width = form_columns (residues_propositional m.prime) R m.matrix e.form.matrix e.transform.matrix e.pivots h.reduction

  pub same_rows : e.form.matrix.rows ≡ m.matrix.rows
  same_rows = form_rows (residues_propositional m.prime) R m.matrix e.form.matrix e.transform.matrix e.pivots h.reduction

  pub places : ArePlaces (length m.matrix.columns) e.pivots
  places = record { rising = h.reduction.reduced.rising; within = λ i l. omega (arith, h.reduction.reduced.within i l, same_width) }

  pub kernel_read : (free : List ℕ) (basis : List (List ℕ)) → AreFree (length e.form.matrix.columns) e.pivots free → length basis ≡ length free
      → ((t : ℕ) → t < length free → IsKernelColumn e.form.prime e.form.matrix e.pivots (get_or free t 0) (get_or basis t []))
      → IsKernelBasis (residues m.prime) m.matrix basis
  kernel_read free basis form_free same columns =
      Kernels.kernel_basis (residues_propositional m.prime) R m.matrix e.form.matrix e.transform.matrix h.matrix.entries form_valid transform_valid e.pivots h.reduction
      free basis valid F same at_free (λ t i lt li. (column t lt).at_pivot i li)
    where
      F : AreFree (length m.matrix.columns) e.pivots free
      F = subst (λ k. AreFree k e.pivots free) same_width form_free

      column : (t : ℕ) → t < length free → IsKernelColumn m.prime e.form.matrix e.pivots (get_or free t 0) (get_or basis t [])
      column t l = subst (λ q. IsKernelColumn q e.form.matrix e.pivots (get_or free t 0) (get_or basis t [])) h.form_prime (columns t l)

      valid : All (IsColumn (residues m.prime) (length m.matrix.columns)) basis
      valid = All-from_get_or (IsColumn (residues m.prime) (length m.matrix.columns)) basis []
          (λ t l. let v = (column t (omega arith)).column in (v.0 ∙ same_width, v.1))

      apart : (s t : ℕ) → s < length free → t < length free → s ≢ t → get_or free s 0 ≢ get_or free t 0
      apart s t ls lt d = ⊎_elim (λ l. let up : get_or free s 0 < get_or free t 0 = F.rising s t l lt in omega arith)
          (λ l. let up : get_or free t 0 < get_or free s 0 = F.rising t s (omega arith) ls in omega arith) (cases_lt s t)

      at_free : (t s : ℕ) → t < length free → s < length free → get_or (get_or basis t []) (get_or free s 0) 0 ≡ PrivateGrids.delta (mod_ops m.prime) t s
      at_free t s lt ls = ⊎_elim
          (λ e. ap (λ k. get_or (get_or basis t []) (get_or free k 0) 0) (sym e) ∙ (column t lt).one ∙ sym (delta_same (mod_ops m.prime) t s e))
          (λ d. (column t lt).zero_elsewhere (get_or free s 0) (apart s t ls lt (λ e. d (sym e))) (λ i li. F.no_pivot i s li ls)
          ∙ sym (delta_other (mod_ops m.prime) t s d)) (cases_eq t s)

  -- ---- solutions
  module _ (b target : List ℕ) (vb : IsColumn (residues m.prime) m.matrix.rows b)
      (is : target ≡ matrix_apply (mod_ops e.transform.prime) e.transform.matrix b) where
    target_is : target ≡ matrix_apply (mod_ops m.prime) e.transform.matrix b
    target_is = is ∙ ap (λ q. matrix_apply (mod_ops q) e.transform.matrix b) h.transform_prime

    pub solution_read : (x : List ℕ) → IsColumn (residues m.prime) (length m.matrix.columns) x
        → ((i : ℕ) → i < length e.pivots → get_or x (get_or e.pivots i 0) 0 ≡ get_or target i 0)
        → ((k : ℕ) → ((i : ℕ) → i < length e.pivots → get_or e.pivots i 0 ≢ k) → get_or x k 0 ≡ 0)
        → ((i : ℕ) → length e.pivots ≤ i → i < m.matrix.rows → get_or target i 0 ≡ 0)
        → matrix_apply (mod_ops m.prime) m.matrix x ≡ b
    solution_read x v at zero_elsewhere rest =
        Kernels.solution (residues_propositional m.prime) R m.matrix e.form.matrix e.transform.matrix h.matrix.entries form_valid transform_valid e.pivots h.reduction
        b x vb v (λ k lk. ⊎_elim (λ w. inl w) (λ no. inr (zero_elsewhere k no)) (place_or_not e.pivots k))
        (λ i l. at i l ∙ ap (λ y. get_or y i 0) target_is) (λ i l ln. sym (ap (λ y. get_or y i 0) target_is) ∙ rest i l ln)

    pub no_solution_read : (i : ℕ) → length e.pivots ≤ i → i < m.matrix.rows → get_or target i 0 ≢ 0
        → (x : List ℕ) → IsColumn (residues m.prime) (length m.matrix.columns) x → matrix_apply (mod_ops m.prime) m.matrix x ≡ b → ⊥
    no_solution_read i l ln ne =
        Kernels.no_solution (residues_propositional m.prime) R m.matrix e.form.matrix e.transform.matrix h.matrix.entries form_valid transform_valid e.pivots h.reduction
        b vb i l ln (λ q. ne (ap (λ y. get_or y i 0) target_is ∙ q))

  -- ---- left inverses
  pub dependent_read : length e.pivots < length m.matrix.columns → IsIndependent (residues m.prime) m.matrix.rows m.matrix.columns → ⊥
  dependent_read l =
      Kernels.dependent (residues_propositional m.prime) R m.matrix e.form.matrix e.transform.matrix h.matrix.entries form_valid transform_valid e.pivots h.reduction
      (λ e. absurd (omega arith)) l

  pub left_inverse_read : (l : Matrix ℕ) → length m.matrix.columns ≤ length e.pivots → l.rows ≡ length m.matrix.columns → IsMatrix (residues m.prime) l
      → l.columns ≡ map (take (length m.matrix.columns)) e.transform.matrix.columns
      → matrix_product (mod_ops m.prime) l m.matrix ≡ identity_matrix (mod_ops m.prime) (length m.matrix.columns)
  left_inverse_read l all rows w columns =
      Kernels.left_inverse (residues_propositional m.prime) R m.matrix e.form.matrix e.transform.matrix h.matrix.entries form_valid transform_valid e.pivots h.reduction
      every l w rows (ap length columns ∙ length-map e.transform.matrix.columns (take (length m.matrix.columns)) ∙ h.reduction.square.1)
      (λ i j li lj. ap (λ x. get_or x i 0) (ap (λ xs. get_or xs j []) columns ∙ get_or-map (take (length m.matrix.columns)) e.transform.matrix.columns j [] [] (omega (arith, h.reduction.square.1)))
      ∙ get_or-take (length m.matrix.columns) (column_at e.transform.matrix j) i 0 li)
    where
      every : length e.pivots ≡ length m.matrix.columns
      every = omega (arith, rising_few e.pivots (length m.matrix.columns) places.rising places.within)

  pub independent_read : (l : Matrix ℕ) → IsMatrix (residues m.prime) l → length l.columns ≡ m.matrix.rows
      → matrix_product (mod_ops m.prime) l m.matrix ≡ identity_matrix (mod_ops m.prime) (length m.matrix.columns)
      → IsIndependent (residues m.prime) m.matrix.rows m.matrix.columns
  independent_read l w columns e = Kernels.independent_from_left (residues_propositional m.prime) R m.matrix l h.matrix.entries w (sym columns) e

-- a column of one matrix with this form is one of each
pub column_of_each : (m n : ModularMatrix) (e : Echelon) → IsEchelonOf m e → IsEchelonOf n e
    → (b : List ℕ) → IsColumn (residues m.prime) m.matrix.rows b → IsColumn (residues n.prime) n.matrix.rows b
column_of_each m n e h g b v = (
  v.0 ∙ sym (same_rows m e h) ∙ same_rows n e g,
  subst (λ p. All (λ x. x < p) b) (sym h.form_prime ∙ g.form_prime) v.1,
)
