-- The reduced row echelon form of a matrix over a carrier that is a ring, against that of its entries.
use Rattle.std.proofs.Common.{◌≡◌, ℕ, ◌<◌, ◌≤◌, List, [], length, get_or, refl, ap, sym, ◌∙◌, subst, ⊎_elim, arith}
use Rattle.std.proofs.lemmas.List.{get_or_past}
use Rattle.std.proofs.lemmas.Bool.{cases_lt}
use Rattle.alg_model.specs.Coefficients.{Ops, Carrier}
use Rattle.alg_model.specs.Fields.{IsRing}
use Rattle.alg_model.specs.Matrices.{Matrix, column_at, entry, IsMatrix, IsInverse, IsReducedEchelon, IsReduction}
use Rattle.alg_rings.specs.Laws.{IsPropositional}
use Rattle.alg_rings.proofs.Elements.{Element, element_ops, underlying_injective}
use Rattle.alg_linear.proofs.Grids
use Rattle.alg_linear.specs.PrivateGrids.{grid_product}
use Rattle.alg_linear.specs.PrivateGrids.{IsReducedTo}
use Rattle.alg_linear.specs.PrivateGrids.{IsTransformed}
use Rattle.alg_linear.proofs.Columns.{length_unit_column, unit_column_at, length_product, length_identity, same_columns}
use Rattle.alg_linear.proofs.CarrierMatrices
use Rattle.alg_linear.proofs.MatrixEntries.{entries, product_value, product_from_entries, product_is_identity, identity_product_entries}

module _ {A : Type 0} {c : Carrier A} (P : IsPropositional c) (R : IsRing c) where
  -- an entry outside is zero
  entry_past_row : (m : Matrix A) → IsMatrix c m → (r k : ℕ) → m.rows ≤ r → entry c.ops m r k ≡ c.ops.zero
  entry_past_row m w r k l = ⊎_elim (λ h. get_or_past (column_at m k) r c.ops.zero (omega (arith, (w k [] h).0)))
      (λ h. ap (λ x. get_or x r c.ops.zero) (get_or_past m.columns k [] h)) (cases_lt k (length m.columns))

  entry_past_column : (m : Matrix A) (r k : ℕ) → length m.columns ≤ k → entry c.ops m r k ≡ c.ops.zero
  entry_past_column m r k l = ap (λ x. get_or x r c.ops.zero) (get_or_past m.columns k [] l)

  pub reduced_lists : (m : Matrix A) (w : IsMatrix c m) (pivots : List ℕ)
      → IsReducedTo (element_ops R) m.rows (length m.columns) pivots (entries R m w) → IsReducedEchelon c m pivots
  reduced_lists m w pivots h = record {
    rising = h.rising;
    within = h.within;
    rows_enough = h.rows_enough;
    pivot_column = λ i l. same_columns c.ops m.rows _ _ (w _ [] (h.within i l)).0 (length_unit_column c.ops m.rows i)
        (λ r lr. ap (λ x. x.0) (h.pivot_column r i lr l) ∙ CarrierMatrices.delta_value R r i ∙ sym (unit_column_at c.ops m.rows i r lr));
    before_pivot = λ i k l lk. ap (λ x. x.0) (h.before_pivot i k l lk);
    rest_zero = λ r k l. ⊎_elim
        (λ lr. ⊎_elim (λ lk. ap (λ x. x.0) (h.rest_zero r k l lr lk)) (λ lk. entry_past_column m r k lk) (cases_lt k (length m.columns)))
        (λ lr. entry_past_row m w r k lr) (cases_lt r m.rows);
  }

  pub reduced_entries : (m : Matrix A) (w : IsMatrix c m) (pivots : List ℕ)
      → IsReducedEchelon c m pivots → IsReducedTo (element_ops R) m.rows (length m.columns) pivots (entries R m w)
  reduced_entries m w pivots h = record {
    rising = h.rising;
    within = h.within;
    rows_enough = h.rows_enough;
    pivot_column = λ r i lr l. underlying_injective P _ _
        (ap (λ x. get_or x r c.ops.zero) (h.pivot_column i l) ∙ unit_column_at c.ops m.rows i r lr ∙ sym (CarrierMatrices.delta_value R r i));
    before_pivot = λ i k l lk. underlying_injective P _ _ (h.before_pivot i k l lk);
    rest_zero = λ r k l lr lk. underlying_injective P _ _ (h.rest_zero r k l);
  }

  pub reduction_lists : (m form transform : Matrix A) (wm : IsMatrix c m) (wf : IsMatrix c form) (wt : IsMatrix c transform) (pivots : List ℕ)
      → form.rows ≡ m.rows → length form.columns ≡ length m.columns → transform.rows ≡ m.rows → length transform.columns ≡ m.rows
      → IsTransformed (element_ops R) m.rows (length m.columns) (entries R m wm) (entries R form wf) (entries R transform wt)
      → IsReducedTo (element_ops R) m.rows (length m.columns) pivots (entries R form wf)
      → IsReduction c m form transform pivots
  reduction_lists m form transform wm wf wt pivots fr fc tr tc T h = record {
    product = product_from_entries P R transform m form wt wm wf (sym tc) (fr ∙ sym tr) fc
        (λ i j li lj. ap (λ n. grid_product B n (entries R transform wt) (entries R m wm) i j) tc ∙ T.product i j (omega arith) lj);
    square = (tr, tc);
    invertible = (
      w,
      record {
        matrix = ww;
        left = product_is_identity P R w transform ww wt (length transform.columns) (tr ∙ sym wc) (sym tc) refl
            (λ i j li lj. ap (λ n. grid_product B n (entries R w ww) (entries R transform wt) i j) wc
            ∙ Grids.apply_same B n (entries R w ww) T.back _ (λ k. entries R transform wt k j) i (λ k lk. back_is i k (omega arith) lk) (λ _ _. refl)
            ∙ T.back_transform i j (omega arith) (omega arith));
        right = product_is_identity P R transform w wt ww transform.rows (sym tc) refl (wc ∙ sym tr)
            (λ i j li lj. ap (λ n. grid_product B n (entries R transform wt) (entries R w ww) i j) tc
            ∙ Grids.apply_same B n (entries R transform wt) (entries R transform wt) (λ k. entries R w ww k j) (λ k. T.back k j) i (λ _ _. refl) (λ k lk. back_is k j lk (omega arith))
            ∙ T.transform_back i j (omega arith) (omega arith));
      },
    );
    reduced = reduced_lists form wf pivots (let Q : ℕ → ℕ → Type 0 = λ n k. IsReducedTo B n k pivots (entries R form wf) in
        subst (λ n. Q n (length form.columns)) (sym fr) (subst (Q m.rows) (sym fc) h));
  }
    where
      B : Ops (Element c)
      B = element_ops R

      n : ℕ
      n = m.rows

      w : Matrix A
      w = CarrierMatrices.matrix_of R n n T.back

      ww : IsMatrix c w
      ww = CarrierMatrices.matrix_of_valid R n n T.back

      wc : length w.columns ≡ n
      wc = CarrierMatrices.length_matrix_of R n n T.back

      back_is : (i j : ℕ) → i < n → j < n → entries R w ww i j ≡ T.back i j
      back_is i j li lj = underlying_injective P _ _ (CarrierMatrices.entry_of_matrix_of R n n T.back i j li lj)

  pub form_rows : (m form transform : Matrix A) (pivots : List ℕ) → IsReduction c m form transform pivots → form.rows ≡ m.rows
  form_rows m form transform pivots h = sym (ap (λ d. d.rows) h.product) ∙ h.square.0

  pub form_columns : (m form transform : Matrix A) (pivots : List ℕ) → IsReduction c m form transform pivots → length form.columns ≡ length m.columns
  form_columns m form transform pivots h = sym (ap (λ d. length d.columns) h.product) ∙ length_product c.ops transform m

  pub reduction_reduced : (m form transform : Matrix A) (wf : IsMatrix c form) (pivots : List ℕ)
      → IsReduction c m form transform pivots → IsReducedTo (element_ops R) m.rows (length m.columns) pivots (entries R form wf)
  reduction_reduced m form transform wf pivots h =
      let Q : ℕ → ℕ → Type 0 = λ n k. IsReducedTo (element_ops R) n k pivots (entries R form wf) in
      subst (λ n. Q n (length m.columns)) (form_rows m form transform pivots h)
      (subst (Q form.rows) (form_columns m form transform pivots h) (reduced_entries form wf pivots h.reduced))

  pub reduction_transformed : (m form transform : Matrix A) (wm : IsMatrix c m) (wf : IsMatrix c form) (wt : IsMatrix c transform) (pivots : List ℕ)
      → IsReduction c m form transform pivots
      → IsTransformed (element_ops R) m.rows (length m.columns) (entries R m wm) (entries R form wf) (entries R transform wt)
  reduction_transformed m form transform wm wf wt pivots h = record {
    back = entries R w ww;
    product = λ i j li lj. ap (λ n. grid_product B n (entries R transform wt) (entries R m wm) i j) (sym tc)
        ∙ underlying_injective P _ _ (sym (product_value P R transform m wt wm (sym tc) i j (omega (arith, tr)) lj) ∙ ap (λ d. entry c.ops d i j) h.product);
    transform_back = λ i j li lj. ap (λ n. grid_product B n (entries R transform wt) (entries R w ww) i j) (sym tc)
        ∙ identity_product_entries P R transform w wt ww transform.rows wr inverse.right i j (omega (arith, tr)) (omega (arith, tr));
    back_transform = λ i j li lj. ap (λ n. grid_product B n (entries R w ww) (entries R transform wt) i j) (sym wc)
        ∙ identity_product_entries P R w transform ww wt (length transform.columns) (tr ∙ sym wc) inverse.left i j (omega (arith, tc)) (omega (arith, tc));
  }
    where
      B : Ops (Element c)
      B = element_ops R

      w : Matrix A
      w = h.invertible.0

      inverse : IsInverse c transform w
      inverse = h.invertible.1

      ww : IsMatrix c w
      ww = inverse.matrix

      tr : transform.rows ≡ m.rows
      tr = h.square.0

      tc : length transform.columns ≡ m.rows
      tc = h.square.1

      wr : w.rows ≡ length transform.columns
      wr = ap (λ d. d.rows) inverse.left

      wc : length w.columns ≡ m.rows
      wc = sym (length_product c.ops transform w) ∙ ap (λ d. length d.columns) inverse.right ∙ length_identity c.ops transform.rows ∙ tr
