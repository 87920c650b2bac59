-- Sums and products of members f 0, .., f (n - 1) alike: what holds of both needs an operation that
-- is commutative and associative, and nothing else.
--     fold u m n f            m (f 0) (m (f 1) (.. u))
--     IsCommutative u m       m is commutative and associative, and u changes nothing
--     Keeps h u m v w         h takes u to v, and what m gives to what w gives
use Rattle.std.proofs.Common.{◌≡◌, ℕ, zero, suc, ◌+◌, ◌*◌, ◌<◌, refl, ap, ap₂, sym, ◌∙◌, arith, mul-zero, mul-suc}
use Rattle.alg_model.specs.Coefficients.{Ops}
use Rattle.alg_rings.specs.Laws.{RingLaws}
use Rattle.alg_rings.proofs.Homomorphisms.{Homomorphism}

abbrev pub fold : {A : Type 0} → A → (A → A → A) → ℕ → (ℕ → A) → A
fold u m zero f = u
fold u m (suc n) f = m (f 0) (fold u m n (λ k. f (suc k)))

pub record IsCommutative {A : Type 0} (u : A) (m : A → A → A) : Type 0 where
  pub comm : (x y : A) → m x y ≡ m y x
  pub assoc : (x y z : A) → m (m x y) z ≡ m x (m y z)
  pub unit : (x : A) → m u x ≡ x

-- the sum of a ring, and its product
abbrev pub sums : {A : Type 0} {o : Ops A} → RingLaws o → IsCommutative o.zero o.add
sums R = record { comm = R.add_comm; assoc = R.add_assoc; unit = R.zero_add }

abbrev pub products : {A : Type 0} {o : Ops A} → RingLaws o → IsCommutative o.one o.mul
products R = record { comm = R.mul_comm; assoc = R.mul_assoc; unit = R.one_mul }

pub record Keeps {A B : Type 0} (h : A → B) (u : A) (m : A → A → A) (v : B) (w : B → B → B)
    : Type 0 where
  pub unit : h u ≡ v
  pub both : (x y : A) → h (m x y) ≡ w (h x) (h y)

-- a map that keeps the operations keeps sums, and products
abbrev pub sums_kept : {A B : Type 0} {o : Ops A} {k : Ops B} {h : A → B} → Homomorphism o k h
    → Keeps h o.zero o.add k.zero k.add
sums_kept H = record { unit = H.zero; both = H.add }

abbrev pub products_kept : {A B : Type 0} {o : Ops A} {k : Ops B} {h : A → B} → Homomorphism o k h
    → Keeps h o.one o.mul k.one k.mul
products_kept H = record { unit = H.one; both = H.mul }

-- members that are equal give the same
pub fold_same : {A : Type 0} (u : A) (m : A → A → A) (n : ℕ) (f g : ℕ → A)
    → ((k : ℕ) → k < n → f k ≡ g k) → fold u m n f ≡ fold u m n g
fold_same u m zero f g h = refl
fold_same u m (suc n) f g h = ap₂ m (h 0 (omega arith))
    (fold_same u m n (λ k. f (suc k)) (λ k. g (suc k)) (λ k l. h (suc k) (omega arith)))

-- a map goes inside
pub fold-map : {A B : Type 0} {h : A → B} {u : A} {m : A → A → A} {v : B} {w : B → B → B}
    → Keeps h u m v w → (n : ℕ) (f : ℕ → A) → h (fold u m n f) ≡ fold v w n (λ k. h (f k))
fold-map K zero f = K.unit
fold-map {h = h} {u} {m} {v} {w} K (suc n) f =
    K.both (f 0) (fold u m n (λ k. f (suc k))) ∙ ap (w (h (f 0))) (fold-map K n (λ k. f (suc k)))

module _ {A : Type 0} {u : A} {m : A → A → A} (C : IsCommutative u m) where
  -- the unit may stand last
  pub unit_last : (x : A) → m x u ≡ x
  unit_last x = C.comm x u ∙ C.unit x

  -- two pairs, member by member
  pub pairs : (a b c d : A) → m (m a b) (m c d) ≡ m (m a c) (m b d)
  pairs a b c d = C.assoc a b (m c d)
      ∙ ap (m a) (sym (C.assoc b c d) ∙ ap (λ t. m t d) (C.comm b c) ∙ C.assoc c b d)
      ∙ sym (C.assoc a c (m b d))

  -- members that are all the unit
  pub fold_unit : (n : ℕ) (f : ℕ → A) → ((k : ℕ) → k < n → f k ≡ u) → fold u m n f ≡ u
  fold_unit zero f h = refl
  fold_unit (suc n) f h = ap₂ m (h 0 (omega arith))
      (fold_unit n (λ k. f (suc k)) (λ k l. h (suc k) (omega arith))) ∙ C.unit u

  -- two lists of members at once
  pub fold_both : (n : ℕ) (f g : ℕ → A)
      → fold u m n (λ k. m (f k) (g k)) ≡ m (fold u m n f) (fold u m n g)
  fold_both zero f g = sym (C.unit u)
  fold_both (suc n) f g = ap (m (m (f 0) (g 0))) (fold_both n (λ k. f (suc k)) (λ k. g (suc k)))
      ∙ pairs (f 0) (g 0) (fold u m n (λ k. f (suc k))) (fold u m n (λ k. g (suc k)))

  -- rows and columns in either order
  pub fold_swap : (n l : ℕ) (f : ℕ → ℕ → A)
      → fold u m n (λ i. fold u m l (f i)) ≡ fold u m l (λ j. fold u m n (λ i. f i j))
  fold_swap zero l f = sym (fold_unit l (λ _. u) (λ _ _. refl))
  fold_swap (suc n) l f = ap (m (fold u m l (f 0))) (fold_swap n l (λ i. f (suc i)))
      ∙ sym (fold_both l (f 0) (λ j. fold u m n (λ i. f (suc i) j)))

  -- the last member may stand alone
  pub fold_last : (n : ℕ) (f : ℕ → A) → fold u m (suc n) f ≡ m (fold u m n f) (f n)
  fold_last zero f = C.comm (f 0) u
  fold_last (suc n) f = ap (m (f 0)) (fold_last n (λ k. f (suc k)))
      ∙ sym (C.assoc (f 0) (fold u m n (λ k. f (suc k))) (f (suc n)))

  -- n + l members are n and then l
  pub fold_append : (n l : ℕ) (f : ℕ → A)
      → fold u m (n + l) f ≡ m (fold u m n f) (fold u m l (λ k. f (n + k)))
  fold_append zero l f =
      let e : 0 + l ≡ l = omega arith in ap (λ i. fold u m i f) e
      ∙ fold_same u m l f (λ k. f (0 + k)) (λ k h. ap f (omega arith)) ∙ sym (C.unit _)
  fold_append (suc n) l f =
      let e : suc n + l ≡ suc (n + l) = omega arith in
      ap (λ i. fold u m i f) e ∙ ap (m (f 0)) (fold_append n l (λ k. f (suc k))
      ∙ ap (m (fold u m n (λ k. f (suc k))))
      (fold_same u m l (λ k. f (suc (n + k))) (λ k. f (suc n + k)) (λ k h. ap f (omega arith))))
      ∙ sym (C.assoc (f 0) (fold u m n (λ k. f (suc k))) (fold u m l (λ k. f (suc n + k))))

  -- d * e members are e blocks of d
  pub fold_blocks : (d e : ℕ) (f : ℕ → A)
      → fold u m (d * e) f ≡ fold u m e (λ i. fold u m d (λ j. f (d * i + j)))
  fold_blocks d zero f = ap (λ n. fold u m n f) (mul-zero d)
  fold_blocks d (suc e) f =
      let turn : d * suc e ≡ d + d * e = omega (arith, mul-suc d e) in
      ap (λ n. fold u m n f) turn ∙ fold_append d (d * e) f
      ∙ ap₂ m
      (fold_same u m d f (λ j. f (d * 0 + j)) (λ j h. ap f (omega (arith, mul-zero d))))
      (fold_blocks d e (λ k. f (d + k))
      ∙ fold_same u m e _ _ (λ i h. fold_same u m d _ _ (λ j l. ap f (omega (arith, mul-suc d i)))))
