-- Matrices over a carrier that is a ring: products, and the reduced row echelon form in both of its shapes.
use Rattle.std.proofs.Common.{◌≡◌, ℕ, ◌<◌, List, [], length, map, get_or, refl, ap, sym, ◌∙◌, arith}
use Rattle.std.proofs.lemmas.List.{length-map, get_or-map, ext_get_or}
use Rattle.alg_model.specs.Coefficients.{Ops, Carrier}
use Rattle.alg_model.specs.Fields.{IsRing}
use Rattle.alg_model.specs.Matrices.{Matrix, column_at, entry, matrix_apply, matrix_product, identity_matrix, IsColumn, IsMatrix}
use Rattle.alg_rings.specs.Laws.{IsPropositional}
use Rattle.alg_rings.proofs.Elements.{Element, element_ops, element_laws, underlying_injective}
use Rattle.alg_linear.specs.PrivateElimination.{grid}
use Rattle.alg_linear.specs.PrivateGrids.{delta, grid_apply, grid_product}
use Rattle.alg_linear.proofs.Grids.{apply_same, apply_product}
use Rattle.alg_linear.proofs.Columns.{column_of_product, length_product, length_identity, same_columns, same_matrices}
use Rattle.alg_linear.proofs.CarrierMatrices

-- the entries of a matrix, as elements
abbrev pub entries : {A : Type 0} {c : Carrier A} (R : IsRing c) (m : Matrix A) → IsMatrix c m → ℕ → ℕ → Element c
entries R m w = grid R m.rows m.columns w

module _ {A : Type 0} {c : Carrier A} (P : IsPropositional c) (R : IsRing c) where
  -- the places of what a matrix gives
  pub apply_value : (m : Matrix A) (w : IsMatrix c m) (x : List A) (v : IsColumn c (length m.columns) x) (r : ℕ) → r < m.rows
      → get_or (matrix_apply c.ops m x) r c.ops.zero ≡ (grid_apply (element_ops R) (length m.columns) (entries R m w) (CarrierMatrices.places R x v.1) r).0
  apply_value m w x v r l = CarrierMatrices.combination_value R m.rows m.columns w x v r l

  pub apply_valid : (m : Matrix A) → IsMatrix c m → (x : List A) → IsColumn c (length m.columns) x → IsColumn c m.rows (matrix_apply c.ops m x)
  apply_valid m w x v = CarrierMatrices.combination_valid R m.rows m.columns w x v

  pub product_value : (a b : Matrix A) (wa : IsMatrix c a) (wb : IsMatrix c b) → b.rows ≡ length a.columns → (i j : ℕ) → i < a.rows → j < length b.columns
      → entry c.ops (matrix_product c.ops a b) i j ≡ (grid_product (element_ops R) (length a.columns) (entries R a wa) (entries R b wb) i j).0
  product_value a b wa wb e i j li lj =
      let v : IsColumn c (length a.columns) (column_at b j) = ((wb j [] lj).0 ∙ e, (wb j [] lj).1) in
      ap (λ x. get_or x i c.ops.zero) (column_of_product c.ops a b j lj)
      ∙ apply_value a wa (column_at b j) v i li
      ∙ ap (λ x. x.0) (apply_same (element_ops R) (length a.columns) (entries R a wa) (entries R a wa)
      (CarrierMatrices.places R (column_at b j) v.1) (λ k. entries R b wb k j) i (λ _ _. refl) (λ k _. underlying_injective P _ _ refl))

  -- applying a product is applying twice
  pub product_apply : (a b : Matrix A) → IsMatrix c a → IsMatrix c b → b.rows ≡ length a.columns → (x : List A) → IsColumn c (length b.columns) x
      → matrix_apply c.ops (matrix_product c.ops a b) x ≡ matrix_apply c.ops a (matrix_apply c.ops b x)
  product_apply a b wa wb e x v =
      same_columns c.ops a.rows _ _ (apply_valid ab w x vx).0 (apply_valid a wa bx vb).0
      (λ r l. apply_value ab w x vx r l ∙ ap (λ n. (grid_apply B n (entries R ab w) px r).0) (length_product c.ops a b)
      ∙ ap (λ y. y.0) (apply_same B (length b.columns) (entries R ab w) (grid_product B (length a.columns) (entries R a wa) (entries R b wb)) px px r
      (λ k lk. underlying_injective P _ _ (product_value a b wa wb e r k l lk)) (λ _ _. refl)
      ∙ apply_product (element_laws P R) (length a.columns) (length b.columns) (entries R a wa) (entries R b wb) px r
      ∙ apply_same B (length a.columns) (entries R a wa) (entries R a wa) (grid_apply B (length b.columns) (entries R b wb) px)
      (CarrierMatrices.places R bx vb.1) r (λ _ _. refl)
      (λ k lk. underlying_injective P _ _ (sym (apply_value b wb x v k (omega arith)))))
      ∙ sym (apply_value a wa bx vb r l))
    where
      B : Ops (Element c)
      B = element_ops R

      ab : Matrix A
      ab = matrix_product c.ops a b

      w : IsMatrix c ab
      w = CarrierMatrices.product_valid R a b wa wb e

      vx : IsColumn c (length ab.columns) x
      vx = (v.0 ∙ sym (length_product c.ops a b), v.1)

      px : ℕ → Element c
      px = CarrierMatrices.places R x v.1

      bx : List A
      bx = matrix_apply c.ops b x

      vb : IsColumn c (length a.columns) bx
      vb = ((apply_valid b wb x v).0 ∙ e, (apply_valid b wb x v).1)

  pub product_assoc : (a b d : Matrix A) → IsMatrix c a → IsMatrix c b → IsMatrix c d → b.rows ≡ length a.columns → d.rows ≡ length b.columns
      → matrix_product c.ops (matrix_product c.ops a b) d ≡ matrix_product c.ops a (matrix_product c.ops b d)
  product_assoc a b d wa wb wd e f = λ i. record { rows = a.rows; columns = same i }
    where
      same : map (matrix_apply c.ops (matrix_product c.ops a b)) d.columns ≡ map (matrix_apply c.ops a) (map (matrix_apply c.ops b) d.columns)
      same = ext_get_or [] _ _
          (length-map d.columns (matrix_apply c.ops (matrix_product c.ops a b))
          ∙ sym (length-map (map (matrix_apply c.ops b) d.columns) (matrix_apply c.ops a) ∙ length-map d.columns (matrix_apply c.ops b)))
          (λ j l. let lj : j < length d.columns = omega (arith, length-map d.columns (matrix_apply c.ops (matrix_product c.ops a b))) in
          get_or-map (matrix_apply c.ops (matrix_product c.ops a b)) d.columns j [] [] lj
          ∙ product_apply a b wa wb e (get_or d.columns j []) ((wd j [] lj).0 ∙ f, (wd j [] lj).1)
          ∙ sym (get_or-map (matrix_apply c.ops a) (map (matrix_apply c.ops b) d.columns) j [] [] (omega (arith, length-map d.columns (matrix_apply c.ops b)))
          ∙ ap (matrix_apply c.ops a) (get_or-map (matrix_apply c.ops b) d.columns j [] [] lj)))

  -- a product by its entries
  pub product_from_entries : (a b d : Matrix A) (wa : IsMatrix c a) (wb : IsMatrix c b) (wd : IsMatrix c d) → b.rows ≡ length a.columns
      → d.rows ≡ a.rows → length d.columns ≡ length b.columns
      → ((i j : ℕ) → i < a.rows → j < length b.columns → grid_product (element_ops R) (length a.columns) (entries R a wa) (entries R b wb) i j ≡ entries R d wd i j)
      → matrix_product c.ops a b ≡ d
  product_from_entries a b d wa wb wd e f g h =
      same_matrices c.ops (matrix_product c.ops a b) d a.rows refl f
      (CarrierMatrices.matrix_long c (matrix_product c.ops a b) (CarrierMatrices.product_valid R a b wa wb e))
      (λ k q l. (wd k q l).0 ∙ f)
      (length_product c.ops a b ∙ sym g)
      (λ i j li lj. let lb : j < length b.columns = omega (arith, length_product c.ops a b) in
      product_value a b wa wb e i j li lb ∙ ap (λ y. y.0) (h i j li lb))

  pub product_is_identity : (a b : Matrix A) (wa : IsMatrix c a) (wb : IsMatrix c b) (n : ℕ) → b.rows ≡ length a.columns
      → a.rows ≡ n → length b.columns ≡ n
      → ((i j : ℕ) → i < n → j < n → grid_product (element_ops R) (length a.columns) (entries R a wa) (entries R b wb) i j ≡ delta (element_ops R) i j)
      → matrix_product c.ops a b ≡ identity_matrix c.ops n
  product_is_identity a b wa wb n e f g h =
      product_from_entries a b (identity_matrix c.ops n) wa wb (CarrierMatrices.identity_valid R n) e (sym f) (length_identity c.ops n ∙ sym g)
      (λ i j li lj. h i j (omega arith) (omega arith) ∙ underlying_injective P _ _ (sym (CarrierMatrices.entry_of_identity R n i j (omega arith) (omega arith))))

  pub identity_product_entries : (a b : Matrix A) (wa : IsMatrix c a) (wb : IsMatrix c b) (n : ℕ) → b.rows ≡ length a.columns
      → matrix_product c.ops a b ≡ identity_matrix c.ops n
      → (i j : ℕ) → i < n → j < n → grid_product (element_ops R) (length a.columns) (entries R a wa) (entries R b wb) i j ≡ delta (element_ops R) i j
  identity_product_entries a b wa wb n e h i j li lj =
      let rows : a.rows ≡ n = ap (λ m. m.rows) h in
      let columns : length b.columns ≡ n = sym (length_product c.ops a b) ∙ ap (λ m. length m.columns) h ∙ length_identity c.ops n in
      underlying_injective P _ _ (sym (product_value a b wa wb e i j (omega arith) (omega arith)) ∙ ap (λ m. entry c.ops m i j) h
      ∙ CarrierMatrices.entry_of_identity R n i j li lj)
