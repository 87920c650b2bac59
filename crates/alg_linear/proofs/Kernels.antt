-- What the reduced row echelon form of a matrix over a carrier says of its kernel, of solutions and of left inverses.
use Rattle.std.proofs.Common.{◌≡◌, ◌≢◌, ◌⊎◌, ℕ, ◌<◌, ◌≤◌, List, [], length, get_or, All, refl, ap, sym, ◌∙◌, inl, inr, ⊎_elim, arith}
use Rattle.std.proofs.lemmas.Bool.{cases_lt}
use Rattle.std.proofs.lemmas.List.Elements.{All-from_get_or}
use Rattle.alg_model.specs.Coefficients.{Ops, Carrier}
use Rattle.alg_model.specs.Fields.{IsRing}
use Rattle.alg_model.specs.Matrices.{Matrix, entry, zero_column, combination, matrix_apply, matrix_product, identity_matrix, IsColumn, IsMatrix, IsReduction, IsIndependent, IsInKernel, IsKernelBasis}
use Rattle.alg_rings.specs.Laws.{IsPropositional, RingLaws}
use Rattle.alg_rings.proofs.Elements.{Element, element_ops, element_laws, underlying_injective}
use Rattle.alg_linear.specs.PrivateElimination.{grid}
use Rattle.alg_linear.specs.PrivateGrids.{total}
use Rattle.alg_linear.proofs.Sums.{total_same}
use Rattle.alg_linear.specs.PrivateGrids.{delta, grid_apply, grid_product}
use Rattle.alg_linear.proofs.Grids.{apply_same}
use Rattle.alg_linear.specs.PrivateGrids.{IsReducedTo}
use Rattle.alg_linear.proofs.Solutions
use Rattle.alg_linear.specs.PrivateGrids.{IsTransformed, AreFree, AreKernelColumns}
use Rattle.alg_linear.proofs.Columns.{length_zero_column, zero_column_at, length_combination, same_columns}
use Rattle.alg_linear.proofs.CarrierMatrices
use Rattle.alg_linear.proofs.MatrixEntries.{entries, apply_value, apply_valid, product_is_identity, identity_product_entries}
use Rattle.alg_linear.proofs.Echelons.{reduction_reduced, reduction_transformed}

module _ {A : Type 0} {c : Carrier A} (P : IsPropositional c) (R : IsRing c) where
  zero_places : (m : Matrix A) (w : IsMatrix c m) (x : List A) (v : IsColumn c (length m.columns) x)
      → matrix_apply c.ops m x ≡ zero_column c.ops m.rows
      → (i : ℕ) → i < m.rows → grid_apply (element_ops R) (length m.columns) (entries R m w) (CarrierMatrices.places R x v.1) i ≡ (element_ops R).zero
  zero_places m w x v e i l = underlying_injective P _ _
      (sym (apply_value P R m w x v i l) ∙ ap (λ y. get_or y i c.ops.zero) e ∙ zero_column_at c.ops m.rows i l)

  zero_from_places : (m : Matrix A) (w : IsMatrix c m) (x : List A) (v : IsColumn c (length m.columns) x)
      → ((i : ℕ) → i < m.rows → grid_apply (element_ops R) (length m.columns) (entries R m w) (CarrierMatrices.places R x v.1) i ≡ (element_ops R).zero)
      → matrix_apply c.ops m x ≡ zero_column c.ops m.rows
  zero_from_places m w x v h = same_columns c.ops m.rows _ _ (apply_valid P R m w x v).0 (length_zero_column c.ops m.rows)
      (λ i l. apply_value P R m w x v i l ∙ ap (λ y. y.0) (h i l) ∙ sym (zero_column_at c.ops m.rows i l))

  -- a matrix with a left inverse has independent columns
  pub independent_from_left : (m l : Matrix A) → IsMatrix c m → IsMatrix c l → m.rows ≡ length l.columns
      → matrix_product c.ops l m ≡ identity_matrix c.ops (length m.columns) → IsIndependent c m.rows m.columns
  independent_from_left m l w wl e h = λ x v z.
      same_columns c.ops (length m.columns) _ _ v.0 (length_zero_column c.ops (length m.columns))
      (λ k lk. ap (λ y. y.0) (Solutions.zero_from_left_inverse (element_laws P R) m.rows (length m.columns) (entries R l wl) (entries R m w)
      (λ i j li lj. ap (λ n. grid_product (element_ops R) n (entries R l wl) (entries R m w) i j) e
      ∙ identity_product_entries P R l m wl w (length m.columns) e h i j li lj)
      (CarrierMatrices.places R x v.1) (zero_places m w x v z) k lk)
      ∙ sym (zero_column_at c.ops (length m.columns) k lk))

  module _ (m form transform : Matrix A) (wm : IsMatrix c m) (wf : IsMatrix c form) (wt : IsMatrix c transform) (pivots : List ℕ)
      (h : IsReduction c m form transform pivots) where
    abbrev B : Ops (Element c)
    B = element_ops R

    abbrev L : RingLaws B
    L = element_laws P R

    abbrev n : ℕ
    n = m.rows

    abbrev width : ℕ
    width = length m.columns

    abbrev M : ℕ → ℕ → Element c
    M = entries R m wm

    abbrev E : ℕ → ℕ → Element c
    E = entries R form wf

    abbrev T : ℕ → ℕ → Element c
    T = entries R transform wt

    abbrev place : ℕ → ℕ
    place i = get_or pivots i 0

    reduced : IsReducedTo B n width pivots E
    reduced = reduction_reduced P R m form transform wf pivots h

    transformed : IsTransformed B n width M E T
    transformed = reduction_transformed P R m form transform wm wf wt pivots h

    -- ---- solutions
    transform_value : (b : List A) (vb : IsColumn c n b) (vt : IsColumn c (length transform.columns) b) (i : ℕ) → i < n
        → (grid_apply B n T (CarrierMatrices.places R b vb.1) i).0 ≡ get_or (matrix_apply c.ops transform b) i c.ops.zero
    transform_value b vb vt i l =
        ap (λ y. y.0) (apply_same B n T T (CarrierMatrices.places R b vb.1) (CarrierMatrices.places R b vt.1) i (λ _ _. refl) (λ k _. underlying_injective P _ _ refl)
        ∙ ap (λ k. grid_apply B k T (CarrierMatrices.places R b vt.1) i) (sym h.square.1))
        ∙ sym (apply_value P R transform wt b vt i (omega (arith, h.square.0)))

    -- the pivots' places filled from the transformed b, the others zero
    pub solution : (b x : List A) → IsColumn c n b → IsColumn c width x
        → ((k : ℕ) → k < width → ((i : ℕ) × (i < length pivots) × (place i ≡ k)) ⊎ (get_or x k c.ops.zero ≡ c.ops.zero))
        → ((i : ℕ) → i < length pivots → get_or x (place i) c.ops.zero ≡ get_or (matrix_apply c.ops transform b) i c.ops.zero)
        → ((i : ℕ) → length pivots ≤ i → i < n → get_or (matrix_apply c.ops transform b) i c.ops.zero ≡ c.ops.zero)
        → matrix_apply c.ops m x ≡ b
    solution b x vb v outside at rest =
        let vt : IsColumn c (length transform.columns) b = (vb.0 ∙ sym h.square.1, vb.1) in
        same_columns c.ops n _ _ (apply_valid P R m wm x v).0 vb.0
        (λ i l. apply_value P R m wm x v i l
        ∙ ap (λ y. y.0) (Solutions.matrix_from_form L n width M E T transformed (CarrierMatrices.places R x v.1) (CarrierMatrices.places R b vb.1)
        (Solutions.form_solution L n width pivots E reduced (CarrierMatrices.places R x v.1) (grid_apply B n T (CarrierMatrices.places R b vb.1))
        (λ k lk. ⊎_elim (λ a. inl a) (λ e. inr (underlying_injective P _ _ e)) (outside k lk))
        (λ k lk. underlying_injective P _ _ (at k lk ∙ sym (transform_value b vb vt k (omega (arith, reduced.rows_enough)))))
        (λ k lk ln. underlying_injective P _ _ (transform_value b vb vt k ln ∙ rest k lk ln)))
        i l))

    -- a row without a pivot whose place in the transformed b isn't zero
    pub no_solution : (b : List A) → IsColumn c n b → (i : ℕ) → length pivots ≤ i → i < n
        → get_or (matrix_apply c.ops transform b) i c.ops.zero ≢ c.ops.zero
        → (x : List A) → IsColumn c width x → matrix_apply c.ops m x ≡ b → ⊥
    no_solution b vb i li ln ne x v e =
        let vt : IsColumn c (length transform.columns) b = (vb.0 ∙ sym h.square.1, vb.1) in
        ne (sym (transform_value b vb vt i ln)
        ∙ ap (λ y. y.0) (apply_same B n T T (CarrierMatrices.places R b vb.1) (grid_apply B width M (CarrierMatrices.places R x v.1)) i (λ _ _. refl)
        (λ k lk. underlying_injective P _ _ (ap (λ y. get_or y k c.ops.zero) (sym e) ∙ apply_value P R m wm x v k lk))
        ∙ sym (Solutions.form_apply L n width M E T transformed (CarrierMatrices.places R x v.1) i ln)
        ∙ Solutions.form_apply_rest L n width pivots E reduced (CarrierMatrices.places R x v.1) i li ln))

    -- ---- independent columns
    pub dependent : c.ops.one ≢ c.ops.zero → length pivots < width → IsIndependent c n m.columns → ⊥
    dependent one less independent =
        let (f, x, lf, e, k) = Solutions.free_kernel L n width pivots E reduced less in
        let v : IsColumn c width (CarrierMatrices.column_of R width x) = CarrierMatrices.column_of_valid R width x in
        let none : CarrierMatrices.column_of R width x ≡ zero_column c.ops width =
        independent (CarrierMatrices.column_of R width x) v
        (zero_from_places m wm (CarrierMatrices.column_of R width x) v
        (λ i l. apply_same B width M M (CarrierMatrices.places R (CarrierMatrices.column_of R width x) v.1) x i (λ _ _. refl)
        (λ j lj. underlying_injective P _ _ (CarrierMatrices.column_of_at R width x j lj))
        ∙ Solutions.matrix_kernel L n width M E T transformed x k i l)) in
        one (sym (ap (λ y. y.0) e) ∙ sym (CarrierMatrices.column_of_at R width x f lf) ∙ ap (λ y. get_or y f c.ops.zero) none ∙ zero_column_at c.ops width f lf)

    -- the first rows of the transform
    pub left_inverse : length pivots ≡ width → (l : Matrix A) → IsMatrix c l → l.rows ≡ width → length l.columns ≡ n
        → ((i j : ℕ) → i < width → j < n → entry c.ops l i j ≡ entry c.ops transform i j)
        → matrix_product c.ops l m ≡ identity_matrix c.ops width
    left_inverse e l wl lr lc at =
        product_is_identity P R l m wl wm width (sym lc) lr refl
        (λ i j li lj. ap (λ k. grid_product B k (entries R l wl) M i j) lc
        ∙ apply_same B n (entries R l wl) T (λ k. M k j) (λ k. M k j) i (λ k lk. underlying_injective P _ _ (at i k li lk)) (λ _ _. refl)
        ∙ Solutions.left_inverse_entries L n width pivots E reduced M T transformed e i j li lj)

    -- the columns are independent exactly where each has a pivot
    pub all_pivots_if_independent : c.ops.one ≢ c.ops.zero → IsIndependent c n m.columns → length pivots ≡ width
    all_pivots_if_independent one independent =
        ⊎_elim (λ less. absurd (dependent one less independent))
        (λ l. omega (arith, Solutions.rising_few pivots width reduced.rising reduced.within)) (cases_lt (length pivots) width)

    pub independent_if_all_pivots : length pivots ≡ width → IsIndependent c n m.columns
    independent_if_all_pivots e =
        independent_from_left m l wm wl (sym count)
        (left_inverse e l wl refl count (λ i j li lj. CarrierMatrices.entry_of_matrix_of R width n T i j li lj))
      where
        l : Matrix A
        l = CarrierMatrices.matrix_of R width n T

        wl : IsMatrix c l
        wl = CarrierMatrices.matrix_of_valid R width n T

        count : length l.columns ≡ n
        count = CarrierMatrices.length_matrix_of R width n T

    -- ---- the kernel
    module _ (free : List ℕ) (basis : List (List A)) (wb : All (IsColumn c width) basis) (F : AreFree width pivots free)
        (same : length basis ≡ length free)
        (at_free : (t s : ℕ) → t < length free → s < length free → get_or (get_or basis t []) (get_or free s 0) c.ops.zero ≡ delta c.ops t s)
        (at_pivot : (t i : ℕ) → t < length free → i < length pivots
        → get_or (get_or basis t []) (place i) c.ops.zero ≡ c.ops.neg (entry c.ops form i (get_or free t 0))) where
      abbrev v : ℕ → ℕ → Element c
      v t k = grid R width basis wb k t

      kernel_columns : AreKernelColumns B pivots free E v
      kernel_columns = record {
        at_free = λ t s lt ls. underlying_injective P _ _ (at_free t s lt ls ∙ sym (CarrierMatrices.delta_value R t s));
        at_pivot = λ t i lt li. underlying_injective P _ _ (at_pivot t i lt li);
      }

      -- the places of a combination of the basis
      basis_value : (y : List A) (vy : IsColumn c (length basis) y) (k : ℕ) → k < width
          → get_or (combination c.ops width basis y) k c.ops.zero ≡ (total B (length free) (λ t. B.mul (CarrierMatrices.places R y vy.1 t) (v t k))).0
      basis_value y vy k lk =
          CarrierMatrices.combination_value R width basis wb y vy k lk
          ∙ ap (λ x. x.0) (ap (λ q. grid_apply B q (grid R width basis wb) (CarrierMatrices.places R y vy.1) k) same
          ∙ total_same B (length free) _ _ (λ t _. L.mul_comm (v t k) (CarrierMatrices.places R y vy.1 t)))

      basis_member : (t : ℕ) → t < length basis → matrix_apply c.ops m (get_or basis t []) ≡ zero_column c.ops n
      basis_member t l =
          let vx : IsColumn c width (get_or basis t []) = wb t [] l in
          zero_from_places m wm (get_or basis t []) vx
          (λ i li. apply_same B width M M (CarrierMatrices.places R (get_or basis t []) vx.1) (v t) i (λ _ _. refl) (λ k _. underlying_injective P _ _ refl)
          ∙ Solutions.matrix_kernel L n width M E T transformed (v t)
          (Solutions.kernel_member L n width pivots free E reduced F v kernel_columns t (omega arith)) i li)

      spanned : (x : List A) → IsInKernel c m x → (y : List A) × IsColumn c (length basis) y × (combination c.ops width basis y ≡ x)
      spanned x (vx, sent) = (
        y,
        vy,
        same_columns c.ops width _ _ (length_combination c.ops width basis y (CarrierMatrices.columns_long c width basis wb)) vx.0
            (λ k lk. basis_value y vy k lk
            ∙ ap (λ x. x.0) (total_same B (length free) _ _
            (λ t lt. ap (λ w. B.mul w (v t k)) (underlying_injective P (CarrierMatrices.places R y vy.1 t) (px (get_or free t 0))
            (CarrierMatrices.column_of_at R (length basis) (λ t. px (get_or free t 0)) t (omega arith))))
            ∙ Solutions.kernel_spans L n width pivots free E reduced F v kernel_columns px
            (Solutions.form_kernel L n width M E T transformed px (zero_places m wm x vx sent)) k lk)),
      )
        where
          px : ℕ → Element c
          px = CarrierMatrices.places R x vx.1

          y : List A
          y = CarrierMatrices.column_of R (length basis) (λ t. px (get_or free t 0))

          vy : IsColumn c (length basis) y
          vy = CarrierMatrices.column_of_valid R (length basis) (λ t. px (get_or free t 0))

      pub kernel_basis : IsKernelBasis c m basis
      kernel_basis = record {
        members = All-from_get_or (IsInKernel c m) basis [] (λ t l. (wb t [] l, basis_member t l));
        spans = spanned;
        one_way = λ y z vy vz e. same_columns c.ops (length basis) y z vy.0 vz.0
            (λ s ls. ap (λ x. x.0) (Solutions.kernel_one_way L n width pivots free E reduced F v kernel_columns
            (CarrierMatrices.places R y vy.1) (CarrierMatrices.places R z vz.1)
            (λ k lk. underlying_injective P _ _ (sym (basis_value y vy k lk) ∙ ap (λ x. get_or x k c.ops.zero) e ∙ basis_value z vz k lk)) s (omega arith)));
      }
