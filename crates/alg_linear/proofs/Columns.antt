-- Columns and matrices as lists, over any operations: the places of a combination, of a product and of the identity.
use Rattle.std.proofs.Common.{◌≡◌, ℕ, zero, suc, ◌<◌, List, [], ◌∷◌, length, get_or, All, refl, ap, ap₂, sym, ◌∙◌, ⊎_elim, arith}
use Rattle.std.specs.List.{range_with_len}
use Rattle.std.proofs.lemmas.List.{length-map, length-replicate, length-set, get_or-replicate, get_or-set_same, get_or-set_other, get_or-map, ext_get_or}
use Rattle.std.proofs.lemmas.List.FromFn.{length-range_with_len, get_or-range_with_len}
use Rattle.std.proofs.lemmas.List.Elements.{All-head, All-tail}
use Rattle.std.proofs.lemmas.Bool.{cases_eq}
use Rattle.alg_model.specs.Coefficients.{Ops}
use Rattle.alg_model.specs.Polynomials.{sum, scale}
use Rattle.alg_rings.proofs.Lists.{length_scale}
use Rattle.alg_model.specs.Matrices.{Matrix, column_at, entry, zero_column, unit_column, combination, matrix_apply, matrix_product, identity_matrix}
use Rattle.alg_linear.specs.PrivateGrids.{total}
use Rattle.alg_linear.specs.PrivateGrids.{delta}
use Rattle.alg_linear.proofs.Grids.{delta_same, delta_other}

-- all columns have n places
abbrev pub AreLong : {A : Type 0} → ℕ → List (List A) → Type 0
AreLong n cs = All (λ c. length c ≡ n) cs

module _ {A : Type 0} (o : Ops A) where
  open o use {zero as O, one as I, add as ◌⊕◌, mul as ◌⊗◌}

  infixl 60 ◌⊕◌
  infixl 70 ◌⊗◌
  pub length_same_sum : (xs ys : List A) (n : ℕ) → length xs ≡ n → length ys ≡ n → length (sum o xs ys) ≡ n
  length_same_sum [] ys n p q = q
  length_same_sum (x ∷ xs) [] n p q = p
  length_same_sum (x ∷ xs) (y ∷ ys) zero p q = absurd (omega arith)
  length_same_sum (x ∷ xs) (y ∷ ys) (suc n) p q = ap suc (length_same_sum xs ys n (omega arith) (omega arith))

  pub same_sum_at : (xs ys : List A) (n k : ℕ) → length xs ≡ n → length ys ≡ n → k < n
      → get_or (sum o xs ys) k O ≡ get_or xs k O ⊕ get_or ys k O
  same_sum_at [] ys n k p q l = absurd (omega arith)
  same_sum_at (x ∷ xs) [] n k p q l = absurd (omega arith)
  same_sum_at (x ∷ xs) (y ∷ ys) n zero p q l = refl
  same_sum_at (x ∷ xs) (y ∷ ys) zero (suc k) p q l = absurd (omega arith)
  same_sum_at (x ∷ xs) (y ∷ ys) (suc n) (suc k) p q l = same_sum_at xs ys n k (omega arith) (omega arith) (omega arith)

  pub scaled_at : (a : A) (xs : List A) (k : ℕ) → k < length xs → get_or (scale o a xs) k O ≡ a ⊗ get_or xs k O
  scaled_at a [] k l = absurd (omega arith)
  scaled_at a (x ∷ xs) zero l = refl
  scaled_at a (x ∷ xs) (suc k) l = scaled_at a xs k (omega arith)

  pub length_combination : (n : ℕ) (cs : List (List A)) (xs : List A) → AreLong n cs → length (combination o n cs xs) ≡ n
  length_combination n [] xs h = length-replicate n O
  length_combination n (c ∷ cs) [] h = length-replicate n O
  length_combination n (c ∷ cs) (x ∷ xs) h =
      length_same_sum (scale o x c) (combination o n cs xs) n
      (length_scale o x c ∙ All-head (λ c. length c ≡ n) c cs h)
      (length_combination n cs xs (All-tail (λ c. length c ≡ n) c cs h))

  pub combination_at : (n : ℕ) (cs : List (List A)) (xs : List A) → AreLong n cs → length xs ≡ length cs → (r : ℕ) → r < n
      → get_or (combination o n cs xs) r O ≡ total o (length cs) (λ k. get_or xs k O ⊗ get_or (get_or cs k []) r O)
  combination_at n [] xs h e r l = get_or-replicate n r O O l
  combination_at n (c ∷ cs) [] h e r l = absurd (omega arith)
  combination_at n (c ∷ cs) (x ∷ xs) h e r l =
      let head : length c ≡ n = All-head (λ c. length c ≡ n) c cs h in
      let tail = All-tail (λ c. length c ≡ n) c cs h in
      same_sum_at (scale o x c) (combination o n cs xs) n r (length_scale o x c ∙ head) (length_combination n cs xs tail) l
      ∙ ap₂ ◌⊕◌ (scaled_at x c r (omega arith)) (combination_at n cs xs tail (omega arith) r l)

  pub length_zero_column : (n : ℕ) → length (zero_column o n) ≡ n
  length_zero_column n = length-replicate n O

  pub zero_column_at : (n k : ℕ) → k < n → get_or (zero_column o n) k O ≡ O
  zero_column_at n k l = get_or-replicate n k O O l

  pub length_unit_column : (n k : ℕ) → length (unit_column o n k) ≡ n
  length_unit_column n k = length-set (zero_column o n) k I ∙ length-replicate n O

  pub unit_column_at : (n k r : ℕ) → r < n → get_or (unit_column o n k) r O ≡ delta o r k
  unit_column_at n k r l = ⊎_elim
      (λ e. ap (λ w. get_or (unit_column o n k) w O) e ∙ get_or-set_same (zero_column o n) k I O (omega (arith, length-replicate n O))
      ∙ sym (delta_same o r k e))
      (λ d. get_or-set_other (zero_column o n) k r I O d ∙ get_or-replicate n r O O l ∙ sym (delta_other o r k d))
      (cases_eq r k)

  -- ---- matrices
  pub column_of_product : (a b : Matrix A) (j : ℕ) → j < length b.columns
      → column_at (matrix_product o a b) j ≡ matrix_apply o a (column_at b j)
  column_of_product a b j l = get_or-map (matrix_apply o a) b.columns j [] [] l

  pub column_of_identity : (n j : ℕ) → j < n → column_at (identity_matrix o n) j ≡ unit_column o n j
  column_of_identity n j l =
      get_or-map (unit_column o n) (range_with_len 0 n) j 0 [] (omega (arith, length-range_with_len 0 n))
      ∙ ap (unit_column o n) (get_or-range_with_len 0 n j 0 l ∙ omega arith)

  pub length_identity : (n : ℕ) → length (identity_matrix o n).columns ≡ n
  length_identity n = length-map (range_with_len 0 n) (unit_column o n) ∙ length-range_with_len 0 n

  pub length_product : (a b : Matrix A) → length (matrix_product o a b).columns ≡ length b.columns
  length_product a b = length-map b.columns (matrix_apply o a)

  -- two columns of n places that agree at each
  pub same_columns : (n : ℕ) (xs ys : List A) → length xs ≡ n → length ys ≡ n
      → ((r : ℕ) → r < n → get_or xs r O ≡ get_or ys r O) → xs ≡ ys
  same_columns n xs ys p q h = ext_get_or O xs ys (p ∙ sym q) (λ r l. h r (omega arith))

  -- a multiple of a column, and a sum with a multiple, by their places
  pub scale_by_places : (a : A) (xs ys : List A) → length ys ≡ length xs → ((k : ℕ) → k < length xs → get_or ys k O ≡ a ⊗ get_or xs k O)
      → ys ≡ scale o a xs
  scale_by_places a xs ys e h = same_columns (length xs) ys (scale o a xs) e (length_scale o a xs) (λ k l. h k l ∙ sym (scaled_at a xs k l))

  pub sum_scale_at : (a : A) (xs zs : List A) → length zs ≡ length xs → (k : ℕ) → k < length zs
      → get_or (sum o (scale o a zs) xs) k O ≡ a ⊗ get_or zs k O ⊕ get_or xs k O
  sum_scale_at a xs zs f k l =
      same_sum_at (scale o a zs) xs (length xs) k (length_scale o a zs ∙ f) refl (omega arith) ∙ ap (λ w. w ⊕ get_or xs k O) (scaled_at a zs k l)

  pub sum_scale_by_places : (a : A) (xs ys zs : List A) → length ys ≡ length xs → length zs ≡ length xs
      → ((k : ℕ) → k < length xs → get_or ys k O ≡ a ⊗ get_or zs k O ⊕ get_or xs k O) → ys ≡ sum o (scale o a zs) xs
  sum_scale_by_places a xs ys zs e f h =
      same_columns (length xs) ys (sum o (scale o a zs) xs) e (length_same_sum (scale o a zs) xs (length xs) (length_scale o a zs ∙ f) refl)
      (λ k l. h k l ∙ sym (sum_scale_at a xs zs f k (omega arith)))

  -- two matrices of n rows that agree at each entry
  pub same_matrices : (a b : Matrix A) (n : ℕ) → a.rows ≡ n → b.rows ≡ n → AreLong n a.columns → AreLong n b.columns
      → length a.columns ≡ length b.columns
      → ((r k : ℕ) → r < n → k < length a.columns → entry o a r k ≡ entry o b r k) → a ≡ b
  same_matrices a b n p q u v e h =
      let same : a.columns ≡ b.columns =
      ext_get_or [] a.columns b.columns e (λ k l. same_columns n _ _ (u k [] l) (v k [] (omega arith)) (λ r lr. h r k lr l)) in
      λ i. record { rows = (p ∙ sym q) i; columns = same i }
