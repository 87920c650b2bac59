-- What a matrix's reduced row echelon form says of it: its kernel, the solutions, and whether its columns are independent.
use Rattle.std.proofs.Common.{◌≡◌, ◌≢◌, ◌⊎◌, ℕ, zero, suc, ◌+◌, ◌-◌, ◌<◌, ◌≤◌, cond, ◌==◌, ltb, List, length, get_or, refl, ap, ap₂, sym, ◌∙◌, inl, inr, ⊎_elim, arith}
use Rattle.std.proofs.lemmas.Bool.{cases_eq, cases_lt, eq-eqb, ne_eqb, lt-ltb, le-ltb}
use Rattle.alg_model.specs.Coefficients.{Ops}
use Rattle.alg_rings.specs.Laws.{RingLaws}
use Rattle.alg_rings.proofs.Rings.{mul_zero, zero_mul, mul_one, neg_zero, same_from_difference}
use Rattle.alg_linear.specs.PrivateGrids.{total, IsTransformed, AreFree, AreKernelColumns}
use Rattle.alg_linear.proofs.Sums.{total_zero, total_single, total_pair}
use Rattle.alg_linear.specs.PrivateGrids.{delta, grid_apply, grid_product}
use Rattle.alg_linear.proofs.Grids.{delta_same, delta_other, apply_same, apply_delta, apply_to_delta, apply_product, apply_zero, zero_apply, apply_add, apply_neg, apply_combination}
use Rattle.alg_linear.specs.PrivateGrids.{RowEquivalent}
use Rattle.alg_linear.specs.PrivateGrids.{IsReducedTo}

-- entries of the form and of the transform alone count
pub transformed_same : {A : Type 0} (o : Ops A) (n m : ℕ) (M E T E' T' : ℕ → ℕ → A) → IsTransformed o n m M E T
    → ((i j : ℕ) → i < n → j < m → E' i j ≡ E i j) → ((i j : ℕ) → i < n → j < n → T' i j ≡ T i j) → IsTransformed o n m M E' T'
transformed_same o n m M E T E' T' h e t = record {
  back = h.back;
  product = λ i j li lj. apply_same o n T' T (λ k. M k j) (λ k. M k j) i (λ k lk. t i k li lk) (λ _ _. refl) ∙ h.product i j li lj ∙ sym (e i j li lj);
  transform_back = λ i j li lj. apply_same o n T' T (λ k. h.back k j) (λ k. h.back k j) i (λ k lk. t i k li lk) (λ _ _. refl) ∙ h.transform_back i j li lj;
  back_transform = λ i j li lj. apply_same o n h.back h.back (λ k. T' k j) (λ k. T k j) i (λ _ _. refl) (λ k lk. t k j lk lj) ∙ h.back_transform i j li lj;
}

module _ {A : Type 0} {o : Ops A} (R : RingLaws o) where
  open o use {zero as O, one as I, add as ◌⊕◌, mul as ◌⊗◌, neg}

  infixl 60 ◌⊕◌
  infixl 70 ◌⊗◌
  -- the matrix beside the identity, reduced, is the form beside the transform
  pub transformed_from_augmented : (n m : ℕ) (M X Y : ℕ → ℕ → A)
      → ((i j : ℕ) → i < n → j < m → X i j ≡ M i j)
      → ((i l : ℕ) → i < n → l < n → X i (m + l) ≡ delta o i l)
      → RowEquivalent o n X Y → IsTransformed o n m M Y (λ i l. Y i (m + l))
  transformed_from_augmented n m M X Y left right e = record {
    back = e.back;
    product = λ i j li lj. apply_same o n (λ a l. Y a (m + l)) e.forward _ (λ k. X k j) i (λ l ll. transform i l li ll) (λ k lk. sym (left k j lk lj))
        ∙ sym (e.moves i j li);
    transform_back = λ i j li lj. apply_same o n (λ a l. Y a (m + l)) e.forward (λ k. e.back k j) (λ k. e.back k j) i (λ l ll. transform i l li ll) (λ _ _. refl)
        ∙ e.forward_back i j li lj;
    back_transform = λ i j li lj. apply_same o n e.back e.back (λ k. Y k (m + j)) (λ k. e.forward k j) i (λ _ _. refl) (λ k lk. transform k j lk lj)
        ∙ e.back_forward i j li lj;
  }
    where
      transform : (i l : ℕ) → i < n → l < n → Y i (m + l) ≡ e.forward i l
      transform i l li ll = e.moves i (m + l) li
          ∙ apply_same o n e.forward e.forward _ (λ k. delta o k l) i (λ _ _. refl) (λ k lk. right k l lk ll)
          ∙ apply_to_delta R n e.forward i l ll

  module _ (n m : ℕ) (M E T : ℕ → ℕ → A) (W : IsTransformed o n m M E T) where
    -- the form applied to a column is the transform applied to what the matrix gives
    pub form_apply : (x : ℕ → A) (i : ℕ) → i < n → grid_apply o m E x i ≡ grid_apply o n T (grid_apply o m M x) i
    form_apply x i li =
        apply_same o m E (grid_product o n T M) x x i (λ k lk. sym (W.product i k li lk)) (λ _ _. refl) ∙ apply_product R n m T M x i

    -- T can be taken off
    transform_off : (x : ℕ → A) (i : ℕ) → i < n → grid_apply o n W.back (grid_apply o n T x) i ≡ x i
    transform_off x i li = sym (apply_product R n n W.back T x i)
        ∙ apply_same o n (grid_product o n W.back T) (delta o) x x i (λ k lk. W.back_transform i k li lk) (λ _ _. refl) ∙ apply_delta R n x i li

    pub matrix_from_form : (x y : ℕ → A) → ((i : ℕ) → i < n → grid_apply o m E x i ≡ grid_apply o n T y i)
        → (i : ℕ) → i < n → grid_apply o m M x i ≡ y i
    matrix_from_form x y h i li =
        sym (transform_off (grid_apply o m M x) i li)
        ∙ apply_same o n W.back W.back _ _ i (λ _ _. refl) (λ k lk. sym (form_apply x k lk) ∙ h k lk)
        ∙ transform_off y i li

    pub form_kernel : (x : ℕ → A) → ((i : ℕ) → i < n → grid_apply o m M x i ≡ O) → (i : ℕ) → i < n → grid_apply o m E x i ≡ O
    form_kernel x h i li = form_apply x i li ∙ apply_zero R n T (grid_apply o m M x) i h

    pub matrix_kernel : (x : ℕ → A) → ((i : ℕ) → i < n → grid_apply o m E x i ≡ O) → (i : ℕ) → i < n → grid_apply o m M x i ≡ O
    matrix_kernel x h i li = matrix_from_form x (λ _. O) (λ k lk. h k lk ∙ sym (apply_zero R n T (λ _. O) k (λ _ _. refl))) i li

  module _ (n m : ℕ) (pivots : List ℕ) (E : ℕ → ℕ → A) (h : IsReducedTo o n m pivots E) where
    -- applied to a column that is zero outside the pivots' places, the form gives what stands there
    pub form_apply_pivots : (x : ℕ → A)
        → ((k : ℕ) → k < m → ((i : ℕ) × (i < length pivots) × (get_or pivots i 0 ≡ k)) ⊎ (x k ≡ O))
        → (i : ℕ) → i < length pivots → grid_apply o m E x i ≡ x (get_or pivots i 0)
    form_apply_pivots x z i li =
        total_single R m (λ k. E i k ⊗ x k) (get_or pivots i 0) (h.within i li)
        (λ k lk d. ⊎_elim
        (λ (j, lj, e). ap (λ w. w ⊗ x k) (ap (E i) (sym e) ∙ h.pivot_column i j (omega (arith, h.rows_enough)) lj
        ∙ delta_other o i j (λ q. d (sym e ∙ ap (λ w. get_or pivots w 0) (sym q)))) ∙ zero_mul R (x k))
        (λ e. ap (λ w. E i k ⊗ w) e ∙ mul_zero R (E i k))
        (z k lk))
        ∙ ap (λ w. w ⊗ x (get_or pivots i 0)) (h.pivot_column i i (omega (arith, h.rows_enough)) li ∙ delta_same o i i refl)
        ∙ R.one_mul (x (get_or pivots i 0))

    pub form_apply_rest : (x : ℕ → A) (i : ℕ) → length pivots ≤ i → i < n → grid_apply o m E x i ≡ O
    form_apply_rest x i li ln = zero_apply R m E x i (λ k lk. h.rest_zero i k li ln lk)

    -- the pivots' places filled from y, the others zero, solve what the rows with a pivot say
    pub form_solution : (x y : ℕ → A)
        → ((k : ℕ) → k < m → ((i : ℕ) × (i < length pivots) × (get_or pivots i 0 ≡ k)) ⊎ (x k ≡ O))
        → ((i : ℕ) → i < length pivots → x (get_or pivots i 0) ≡ y i)
        → ((i : ℕ) → length pivots ≤ i → i < n → y i ≡ O) → (i : ℕ) → i < n → grid_apply o m E x i ≡ y i
    form_solution x y z p q i li =
        ⊎_elim (λ l. form_apply_pivots x z i l ∙ p i l) (λ l. form_apply_rest x i l li ∙ sym (q i l li)) (cases_lt i (length pivots))

  module _ (n m : ℕ) (pivots free : List ℕ) (E : ℕ → ℕ → A) (h : IsReducedTo o n m pivots E) (F : AreFree m pivots free) where
    -- two columns that the form sends to zero are equal where they agree at the free places
    pub kernel_by_free : (x y : ℕ → A) → ((i : ℕ) → i < n → grid_apply o m E x i ≡ O) → ((i : ℕ) → i < n → grid_apply o m E y i ≡ O)
        → ((t : ℕ) → t < length free → x (get_or free t 0) ≡ y (get_or free t 0)) → (k : ℕ) → k < m → x k ≡ y k
    kernel_by_free x y p q e k lk =
        ⊎_elim (λ (i, li, w). same_from_difference R (x k) (y k) (ap z (sym w) ∙ sym (form_apply_pivots n m pivots E h z z_zero i li) ∙ z_kernel i (omega (arith, h.rows_enough))))
        (λ (t, lt, w). ap x (sym w) ∙ e t lt ∙ ap y w) (F.covers k lk)
      where
        z : ℕ → A
        z k = x k ⊕ neg (y k)

        z_free : (t : ℕ) → t < length free → z (get_or free t 0) ≡ O
        z_free t lt = ap (λ w. w ⊕ neg (y (get_or free t 0))) (e t lt) ∙ R.add_neg (y (get_or free t 0))

        z_zero : (k : ℕ) → k < m → ((i : ℕ) × (i < length pivots) × (get_or pivots i 0 ≡ k)) ⊎ (z k ≡ O)
        z_zero k lk = ⊎_elim (λ a. inl a) (λ (t, lt, w). inr (ap z (sym w) ∙ z_free t lt)) (F.covers k lk)

        z_kernel : (i : ℕ) → i < n → grid_apply o m E z i ≡ O
        z_kernel i li = apply_add R m E x (λ k. neg (y k)) i ∙ ap₂ ◌⊕◌ (p i li) (apply_neg R m E y i ∙ ap neg (q i li) ∙ neg_zero R) ∙ R.zero_add O

    module _ (v : ℕ → ℕ → A) (K : AreKernelColumns o pivots free E v) where
      pub kernel_member : (t : ℕ) → t < length free → (i : ℕ) → i < n → grid_apply o m E (v t) i ≡ O
      kernel_member t lt i li = ⊎_elim pivot_row (λ l. form_apply_rest n m pivots E h (v t) i l li) (cases_lt i (length pivots))
        where
          other : (l : i < length pivots) (k : ℕ) → k < m → k ≢ get_or free t 0 → k ≢ get_or pivots i 0 → E i k ⊗ v t k ≡ O
          other l k lk d e =
              ⊎_elim
              (λ (j, lj, w). ap (λ u. u ⊗ v t k) (ap (E i) (sym w) ∙ h.pivot_column i j li lj
              ∙ delta_other o i j (λ q. e (sym w ∙ ap (λ u. get_or pivots u 0) (sym q)))) ∙ zero_mul R (v t k))
              (λ (s, ls, w). ap (λ u. E i k ⊗ u) (ap (v t) (sym w) ∙ K.at_free t s lt ls
              ∙ delta_other o t s (λ q. d (sym w ∙ ap (λ u. get_or free u 0) (sym q)))) ∙ mul_zero R (E i k))
              (F.covers k lk)

          pivot_row : i < length pivots → grid_apply o m E (v t) i ≡ O
          pivot_row l =
              total_pair R m (λ k. E i k ⊗ v t k) (get_or free t 0) (get_or pivots i 0) (F.within t lt) (h.within i l)
              (λ e. F.no_pivot i t l lt (sym e)) (other l)
              ∙ ap₂ ◌⊕◌
              (ap (λ w. E i (get_or free t 0) ⊗ w) (K.at_free t t lt lt ∙ delta_same o t t refl) ∙ mul_one R (E i (get_or free t 0)))
              (ap₂ ◌⊗◌ (h.pivot_column i i li l ∙ delta_same o i i refl) (K.at_pivot t i lt l) ∙ R.one_mul (neg (E i (get_or free t 0))))
              ∙ R.add_neg (E i (get_or free t 0))

      -- the free places of a combination are its coefficients
      pub combination_free : (y : ℕ → A) (s : ℕ) → s < length free
          → total o (length free) (λ t. y t ⊗ v t (get_or free s 0)) ≡ y s
      combination_free y s ls =
          total_single R (length free) (λ t. y t ⊗ v t (get_or free s 0)) s ls
          (λ t lt d. ap (λ w. y t ⊗ w) (K.at_free t s lt ls ∙ delta_other o t s d) ∙ mul_zero R (y t))
          ∙ ap (λ w. y s ⊗ w) (K.at_free s s ls ls ∙ delta_same o s s refl) ∙ mul_one R (y s)

      pub kernel_spans : (x : ℕ → A) → ((i : ℕ) → i < n → grid_apply o m E x i ≡ O) → (k : ℕ) → k < m
          → total o (length free) (λ t. x (get_or free t 0) ⊗ v t k) ≡ x k
      kernel_spans x z k lk =
          kernel_by_free (λ k. total o (length free) (λ t. x (get_or free t 0) ⊗ v t k)) x
          (λ i li. apply_combination R m (length free) E (λ t. x (get_or free t 0)) v i
          ∙ total_zero R (length free) _ (λ t lt. ap (λ w. x (get_or free t 0) ⊗ w) (kernel_member t lt i li) ∙ mul_zero R (x (get_or free t 0))))
          z (λ s ls. combination_free (λ t. x (get_or free t 0)) s ls) k lk

      pub kernel_one_way : (y z : ℕ → A)
          → ((k : ℕ) → k < m → total o (length free) (λ t. y t ⊗ v t k) ≡ total o (length free) (λ t. z t ⊗ v t k))
          → (s : ℕ) → s < length free → y s ≡ z s
      kernel_one_way y z e s ls =
          sym (combination_free y s ls) ∙ e (get_or free s 0) (F.within s ls) ∙ combination_free z s ls

-- rising numbers below m, m of them, are 0, 1, .., m - 1
rising_above : (ps : List ℕ) (m : ℕ) → ((i j : ℕ) → i < j → j < length ps → get_or ps i 0 < get_or ps j 0)
    → (i : ℕ) → i < length ps → i ≤ get_or ps i 0
rising_above ps m up zero l = omega arith
rising_above ps m up (suc i) l = omega (arith, rising_above ps m up i (omega arith), up i (suc i) (omega arith) l)

rising_below : (ps : List ℕ) (m : ℕ) → ((i j : ℕ) → i < j → j < length ps → get_or ps i 0 < get_or ps j 0)
    → ((i : ℕ) → i < length ps → get_or ps i 0 < m)
    → (k i : ℕ) → i + k + 1 ≡ length ps → get_or ps i 0 + k < m
rising_below ps m up below zero i e = omega (arith, below i (omega arith))
rising_below ps m up below (suc k) i e =
    omega (arith, rising_below ps m up below k (suc i) (omega arith), up i (suc i) (omega arith) (omega arith))

-- rising numbers below m are at most m
pub rising_few : (ps : List ℕ) (m : ℕ) → ((i j : ℕ) → i < j → j < length ps → get_or ps i 0 < get_or ps j 0)
    → ((i : ℕ) → i < length ps → get_or ps i 0 < m) → length ps ≤ m
rising_few ps m up below = at (length ps) refl
  where
    at : (r : ℕ) → length ps ≡ r → length ps ≤ m
    at zero e = omega arith
    at (suc r) e = omega (arith, rising_above ps m up r (omega arith), below r (omega arith))

pub all_pivots : {A : Type 0} (o : Ops A) (n m : ℕ) (pivots : List ℕ) (E : ℕ → ℕ → A) → IsReducedTo o n m pivots E → length pivots ≡ m
    → (i : ℕ) → i < m → get_or pivots i 0 ≡ i
all_pivots o n m pivots E h e i l =
    let low : i ≤ get_or pivots i 0 = rising_above pivots m h.rising i (omega arith) in
    let high : get_or pivots i 0 + (m - i - 1) < m = rising_below pivots m h.rising h.within (m - i - 1) i (omega arith) in
    omega arith

-- the least column without a pivot
pub first_free : (r : ℕ) (ps : List ℕ) → length ps ≡ r → ((i j : ℕ) → i < j → j < length ps → get_or ps i 0 < get_or ps j 0)
    → (f : ℕ) × (f ≤ r) × ((j : ℕ) → j < f → get_or ps j 0 ≡ j) × ((j : ℕ) → f ≤ j → j < r → f < get_or ps j 0)
first_free r ps e up = search_from r 0 (omega arith) (λ j l. absurd (omega arith))
  where
    later : (f : ℕ) → f < get_or ps f 0 → (j : ℕ) → f ≤ j → j < r → f < get_or ps j 0
    later f h j l lj = ⊎_elim (λ q. let same : get_or ps j 0 ≡ get_or ps f 0 = ap (λ k. get_or ps k 0) q in omega arith)
        (λ d. omega (arith, up f j (omega arith) (omega arith))) (cases_eq j f)

    search_from : (left f : ℕ) → left + f ≡ r → ((j : ℕ) → j < f → get_or ps j 0 ≡ j)
        → (g : ℕ) × (g ≤ r) × ((j : ℕ) → j < g → get_or ps j 0 ≡ j) × ((j : ℕ) → g ≤ j → j < r → g < get_or ps j 0)
    search_from zero f q h = (f, omega arith, h, λ j l lj. absurd (omega arith))
    search_from (suc left) f q h =
        ⊎_elim
        (λ s. search_from left (suc f) (omega arith) (λ j l. ⊎_elim (λ w. ap (λ k. get_or ps k 0) w ∙ s ∙ sym w) (λ d. h j (omega arith)) (cases_eq j f)))
        (λ d. let above : f ≤ get_or ps f 0 = rising_above ps r up f (omega arith) in
        (f, omega arith, h, later f (omega arith)))
        (cases_eq (get_or ps f 0) f)

module _ {A : Type 0} {o : Ops A} (R : RingLaws o) (n m : ℕ) (pivots : List ℕ) (E : ℕ → ℕ → A) (h : IsReducedTo o n m pivots E) where
  open o use {zero as O, one as I, add as ◌⊕◌, mul as ◌⊗◌, neg}

  infixl 60 ◌⊕◌
  infixl 70 ◌⊗◌
  -- where a column has no pivot, some column with an entry that is one is sent to zero
  pub free_kernel : length pivots < m
      → (f : ℕ) × (x : ℕ → A) × (f < m) × (x f ≡ I) × ((i : ℕ) → i < n → grid_apply o m E x i ≡ O)
  free_kernel less =
      let (f, le, before, after) = first_free (length pivots) pivots refl h.rising in
      (f, x f, omega arith, x_free f f refl, kernel f le before after)
    where
      x : ℕ → ℕ → A
      x f k = cond (k == f) I (cond (ltb k f) (neg (E k f)) O)

      x_free : (f k : ℕ) → k ≡ f → x f k ≡ I
      x_free f k e = ap (λ b. cond b I (cond (ltb k f) (neg (E k f)) O)) (eq-eqb k f e)

      x_before : (f k : ℕ) → k < f → x f k ≡ neg (E k f)
      x_before f k l = ap (λ b. cond b I (cond (ltb k f) (neg (E k f)) O)) (ne_eqb k f (omega arith)) ∙ ap (λ b. cond b (neg (E k f)) O) (lt-ltb k f l)

      x_after : (f k : ℕ) → f < k → x f k ≡ O
      x_after f k l = ap (λ b. cond b I (cond (ltb k f) (neg (E k f)) O)) (ne_eqb k f (omega arith)) ∙ ap (λ b. cond b (neg (E k f)) O) (le-ltb k f (omega arith))

      kernel : (f : ℕ) → f ≤ length pivots → ((j : ℕ) → j < f → get_or pivots j 0 ≡ j) → ((j : ℕ) → f ≤ j → j < length pivots → f < get_or pivots j 0)
          → (i : ℕ) → i < n → grid_apply o m E (x f) i ≡ O
      kernel f le before after i li =
          ⊎_elim
          (λ l. total_pair R m (λ k. E i k ⊗ x f k) f i (omega arith) (omega arith) (omega arith)
          (λ k lk d e. ⊎_elim
          (λ lf. ap (λ w. w ⊗ x f k) (unit i k li lf ∙ delta_other o i k (λ q. e (sym q))) ∙ zero_mul R (x f k))
          (λ lf. ap (λ w. E i k ⊗ w) (x_after f k (omega arith)) ∙ mul_zero R (E i k)) (cases_lt k f))
          ∙ ap₂ ◌⊕◌ (ap (λ w. E i f ⊗ w) (x_free f f refl) ∙ mul_one R (E i f))
          (ap₂ ◌⊗◌ (unit i i li l ∙ delta_same o i i refl) (x_before f i l) ∙ R.one_mul (neg (E i f)))
          ∙ R.add_neg (E i f))
          (λ l. total_zero R m (λ k. E i k ⊗ x f k)
          (λ k lk. ⊎_elim
          (λ lf. ap (λ w. w ⊗ x f k) (unit i k li lf ∙ delta_other o i k (omega arith)) ∙ zero_mul R (x f k))
          (λ lf. ⊎_elim
          (λ e. ap (λ w. w ⊗ x f k) (ap (E i) e ∙ free_entry i l li) ∙ zero_mul R (x f k))
          (λ d. ap (λ w. E i k ⊗ w) (x_after f k (omega arith)) ∙ mul_zero R (E i k)) (cases_eq k f)) (cases_lt k f)))
          (cases_lt i f)
        where
          unit : (i k : ℕ) → i < n → k < f → E i k ≡ delta o i k
          unit i k li lf = ap (E i) (sym (before k lf)) ∙ h.pivot_column i k li (omega arith)

          free_entry : (i : ℕ) → f ≤ i → i < n → E i f ≡ O
          free_entry i l li = ⊎_elim (λ lr. h.before_pivot i f lr (after i l lr)) (λ lr. h.rest_zero i f lr li (omega arith)) (cases_lt i (length pivots))

  -- where each column has a pivot, the first rows of the transform are a left inverse
  pub left_inverse_entries : (M T : ℕ → ℕ → A) → IsTransformed o n m M E T → length pivots ≡ m
      → (i j : ℕ) → i < m → j < m → grid_product o n T M i j ≡ delta o i j
  left_inverse_entries M T W e i j li lj =
      W.product i j (omega (arith, h.rows_enough)) lj
      ∙ ap (E i) (sym (all_pivots o n m pivots E h e j lj)) ∙ h.pivot_column i j (omega (arith, h.rows_enough)) (omega arith)

-- a matrix with a left inverse sends zero alone to zero
pub zero_from_left_inverse : {A : Type 0} {o : Ops A} (R : RingLaws o) (n m : ℕ) (L M : ℕ → ℕ → A)
    → ((i j : ℕ) → i < m → j < m → grid_product o n L M i j ≡ delta o i j)
    → (x : ℕ → A) → ((i : ℕ) → i < n → grid_apply o m M x i ≡ o.zero) → (k : ℕ) → k < m → x k ≡ o.zero
zero_from_left_inverse {o = o} R n m L M h x z k lk =
    sym (apply_delta R m x k lk)
    ∙ apply_same o m (delta o) (grid_product o n L M) x x k (λ j lj. sym (h k j lk lj)) (λ _ _. refl)
    ∙ apply_product R n m L M x k ∙ apply_zero R n L (grid_apply o m M x) k z
