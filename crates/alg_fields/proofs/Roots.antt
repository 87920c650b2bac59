-- Division by x - a, and the number of roots of a polynomial over a ring without zero divisors.
use Rattle.std.proofs.Common.{◌≡◌, ◌≢◌, suc, ◌<◌, List, [], ◌∷◌, All, AllPairs, length, slice_index_or, refl, ap, ap₂, sym, ◌∙◌, arith}
use Rattle.std.proofs.lemmas.List.Elements.{All-head}
use Rattle.alg_model.specs.Coefficients.{Ops}
use Rattle.alg_model.specs.Polynomials.{sum, scale, shift, product, trim, leading, evaluate}
use Rattle.alg_rings.specs.Laws.{RingLaws}
use Rattle.alg_rings.proofs.Rings
use Rattle.alg_rings.proofs.Lists
use Rattle.alg_rings.proofs.Trims
use Rattle.alg_rings.proofs.Rings.{sorted, expanded}
use Rattle.alg_rings.proofs.Evaluation

-- no product of elements that aren't zero is zero
abbrev pub IsDomain : {A : Type 0} → Ops A → Type 0
IsDomain {A} o = (x y : A) → o.mul x y ≡ o.zero → x ≢ o.zero → y ≡ o.zero

-- x - a
abbrev pub linear : {A : Type 0} → Ops A → A → List A
linear o a = o.neg a ∷ o.one ∷ []

-- the product of x - a over the members a of a list
abbrev pub linear_product : {A : Type 0} → Ops A → List A → List A
linear_product o [] = o.one ∷ []
linear_product o (a ∷ roots) = product o (linear o a) (linear_product o roots)

-- the quotient by x - a, by synthetic division
abbrev pub quotient_at : {A : Type 0} → Ops A → List A → A → List A
quotient_at o [] a = []
quotient_at o (x ∷ []) a = []
quotient_at o (x ∷ y ∷ ys) a = evaluate o (y ∷ ys) a ∷ quotient_at o (y ∷ ys) a

module _ {A : Type 0} {o : Ops A} (R : RingLaws o) where
  open o use {zero as O, one as I, add as ◌⊕◌, mul as ◌⊗◌, neg}

  infixl 60 ◌⊕◌
  infixl 70 ◌⊗◌
  pub linear_product_is : (a : A) (f : List A) → product o (linear o a) f ≡ sum o (scale o (neg a) f) (shift o f)
  linear_product_is a f = ap (λ w. sum o (scale o (neg a) f) (shift o w)) (Lists.one_product R f)

  head_again : (x a v : A) → x ⊕ a ⊗ v ⊕ (neg a ⊗ v ⊕ O) ≡ x
  head_again x a v =
      ap (λ w. x ⊕ a ⊗ v ⊕ w) (Rings.add_zero R (neg a ⊗ v) ∙ Rings.neg_mul R a v) ∙ R.add_assoc x (a ⊗ v) (neg (a ⊗ v))
      ∙ ap (λ w. x ⊕ w) (R.add_neg (a ⊗ v)) ∙ Rings.add_zero R x

  -- f = value + (x - a) * quotient
  pub division_at : (x : A) (xs : List A) (a : A)
      → x ∷ xs ≡ sum o (evaluate o (x ∷ xs) a ∷ []) (product o (linear o a) (quotient_at o (x ∷ xs) a))
  division_at x [] a = ap (λ w. w ∷ []) (sym (Evaluation.value_of_constant R x a))
  division_at x (y ∷ ys) a =
      let v = evaluate o (y ∷ ys) a in
      let q = quotient_at o (y ∷ ys) a in
      let above : sum o (scale o (neg a) q) (scale o I (v ∷ q)) ≡ y ∷ ys =
      ap (sum o (scale o (neg a) q)) (Lists.scale_one R (v ∷ q) ∙ sym (Lists.sum_cons_shift R v [] q))
      ∙ Lists.sum_left_comm R (scale o (neg a) q) (v ∷ []) (shift o q)
      ∙ ap (sum o (v ∷ [])) (sym (linear_product_is a q)) ∙ sym (division_at y ys a) in
      sym (ap₂ ◌∷◌ (head_again x a v) above)

  pub value_of_linear : (a b : A) → evaluate o (linear o a) b ≡ b ⊕ neg a
  value_of_linear a b = ap (λ w. neg a ⊕ w) (ap (λ w. b ⊗ w) (Evaluation.value_of_constant R I b) ∙ Rings.mul_one R b) ∙ R.add_comm (neg a) b

  pub length_quotient_at : (x : A) (xs : List A) (a : A) → length (quotient_at o (x ∷ xs) a) ≡ length xs
  length_quotient_at x [] a = refl
  length_quotient_at x (y ∷ ys) a = ap suc (length_quotient_at y ys a)

  pub leading_quotient_at : (x y : A) (ys : List A) (a : A) → leading o (quotient_at o (x ∷ y ∷ ys) a) ≡ leading o (y ∷ ys)
  leading_quotient_at x y [] a = Evaluation.value_of_constant R y a
  leading_quotient_at x y (z ∷ zs) a = leading_quotient_at y z zs a

  -- a root splits off its factor
  pub division_at_root : (x y : A) (ys : List A) (a : A) → evaluate o (x ∷ y ∷ ys) a ≡ O
      → x ∷ y ∷ ys ≡ product o (linear o a) (quotient_at o (x ∷ y ∷ ys) a)
  division_at_root x y ys a e =
      division_at x (y ∷ ys) a ∙ ap (λ v. sum o (v ∷ []) (product o (linear o a) (quotient_at o (x ∷ y ∷ ys) a))) e
      ∙ ap₂ ◌∷◌ (R.zero_add _) refl

  pub root_of_quotient : IsDomain o → (x y : A) (ys : List A) (a b : A) → evaluate o (x ∷ y ∷ ys) a ≡ O → evaluate o (x ∷ y ∷ ys) b ≡ O
      → a ≢ b → evaluate o (quotient_at o (x ∷ y ∷ ys) a) b ≡ O
  root_of_quotient domain x y ys a b e e' ne =
      let q = quotient_at o (x ∷ y ∷ ys) a in
      let split : (b ⊕ neg a) ⊗ evaluate o q b ≡ O =
      ap (λ w. w ⊗ evaluate o q b) (sym (value_of_linear a b)) ∙ sym (Evaluation.value_of_product R (linear o a) q b)
      ∙ ap (λ w. evaluate o w b) (sym (division_at_root x y ys a e)) ∙ e' in
      domain (b ⊕ neg a) (evaluate o q b) split (λ z. ne (sym (Rings.same_from_difference R b a z)))

  -- **a polynomial has fewer distinct roots than coefficients**
  pub root_bound : IsDomain o → (f : List A) → leading o f ≢ O → (roots : List A) → AllPairs (λ a b. a ≢ b) roots
      → All (λ a. evaluate o f a ≡ O) roots → length roots < length f
  root_bound domain [] l roots d v = absurd (l refl)
  root_bound domain (x ∷ xs) l [] d v = omega arith
  root_bound domain (x ∷ []) l (a ∷ roots) d v =
      absurd (l (sym (Evaluation.value_of_constant R x a) ∙ All-head (λ b. evaluate o (x ∷ []) b ≡ O) a roots v))
  root_bound domain (x ∷ y ∷ ys) l (a ∷ roots) d v =
      let q = quotient_at o (x ∷ y ∷ ys) a in
      let at_a : evaluate o (x ∷ y ∷ ys) a ≡ O = All-head (λ b. evaluate o (x ∷ y ∷ ys) b ≡ O) a roots v in
      let others : All (λ b. evaluate o q b ≡ O) roots =
      λ k c h. root_of_quotient domain x y ys a (slice_index_or roots k c) at_a (v (suc k) c (omega arith)) (d 0 (suc k) c (omega arith) (omega arith)) in
      let below : length roots < length q =
      root_bound domain q (λ z. l (sym (leading_quotient_at x y ys a) ∙ z)) roots
      (λ i j c lt within. d (suc i) (suc j) c (omega arith) (omega arith)) others in
      omega (arith, length_quotient_at x (y ∷ ys) a)

  -- with one root less than coefficients it is a multiple of the product of x - a
  pub split_at_roots : IsDomain o → (f roots : List A) → length f ≡ suc (length roots) → AllPairs (λ a b. a ≢ b) roots
      → All (λ a. evaluate o f a ≡ O) roots → f ≡ scale o (leading o f) (linear_product o roots)
  split_at_roots domain [] roots e d v = absurd (omega arith)
  split_at_roots domain (x ∷ []) [] e d v = ap (λ w. w ∷ []) (sym (Rings.mul_one R x))
  split_at_roots domain (x ∷ y ∷ ys) [] e d v = absurd (omega arith)
  split_at_roots domain (x ∷ []) (a ∷ roots) e d v = absurd (omega arith)
  split_at_roots domain (x ∷ y ∷ ys) (a ∷ roots) e d v =
      let q = quotient_at o (x ∷ y ∷ ys) a in
      let at_a : evaluate o (x ∷ y ∷ ys) a ≡ O = All-head (λ b. evaluate o (x ∷ y ∷ ys) b ≡ O) a roots v in
      let others : All (λ b. evaluate o q b ≡ O) roots =
      λ k c h. root_of_quotient domain x y ys a (slice_index_or roots k c) at_a (v (suc k) c (omega arith)) (d 0 (suc k) c (omega arith) (omega arith)) in
      let rest : q ≡ scale o (leading o q) (linear_product o roots) =
      split_at_roots domain q roots (omega (arith, length_quotient_at x (y ∷ ys) a))
      (λ i j c lt within. d (suc i) (suc j) c (omega arith) (omega arith)) others in
      division_at_root x y ys a at_a
      ∙ ap (product o (linear o a)) (rest ∙ ap (λ c. scale o c (linear_product o roots)) (leading_quotient_at x y ys a))
      ∙ Lists.product_scale R (leading o (y ∷ ys)) (linear o a) (linear_product o roots)

  -- f = (x - a) * q + the value at a
  pub remainder_at : (f : List A) (a : A)
      → trim o f ≡ trim o (sum o (product o (linear o a) (quotient_at o f a)) (evaluate o f a ∷ []))
  remainder_at [] a = sym (Trims.cons_trimmed_zero o R.zero_test O refl)
  remainder_at (x ∷ xs) a =
      ap (trim o) (division_at x xs a ∙ Lists.sum_comm R (evaluate o (x ∷ xs) a ∷ []) (product o (linear o a) (quotient_at o (x ∷ xs) a)))

  -- a is a root exactly where x - a divides f
  pub root_from_factor : (f q : List A) (a : A) → trim o f ≡ trim o (product o q (linear o a)) → evaluate o f a ≡ O
  root_from_factor f q a e =
      sym (Evaluation.value_of_trim R f a) ∙ ap (λ w. evaluate o w a) e ∙ Evaluation.value_of_trim R (product o q (linear o a)) a
      ∙ Evaluation.value_of_product R q (linear o a) a
      ∙ ap (λ w. evaluate o q a ⊗ w) (value_of_linear a a ∙ R.add_neg a) ∙ Rings.mul_zero R (evaluate o q a)

  pub factor_from_root : (f : List A) (a : A) → evaluate o f a ≡ O → trim o f ≡ trim o (product o (quotient_at o f a) (linear o a))
  factor_from_root f a e =
      remainder_at f a ∙ ap (λ v. trim o (sum o (product o (linear o a) (quotient_at o f a)) (v ∷ []))) e
      ∙ sym (Trims.trim_sum_second R (product o (linear o a) (quotient_at o f a)) (O ∷ []))
      ∙ ap (λ w. trim o (sum o (product o (linear o a) (quotient_at o f a)) w)) (Trims.cons_trimmed_zero o R.zero_test O refl)
      ∙ ap (trim o) (Lists.sum_nil o (product o (linear o a) (quotient_at o f a)) ∙ Lists.product_comm R (linear o a) (quotient_at o f a))
