-- Berlekamp's facts: elements that are their own power p modulo f, and the factors of f.
--     Fixed o p f v     v^p is the same as v modulo f
use Rattle.std.proofs.Common.{◌≡◌, ◌≢◌, ◌⊎◌, ⊎_elim, inl, inr, ℕ, zero, suc, pred, ◌+◌, ◌<◌, ◌≤◌, List, [], ◌∷◌, map, Contains, refl, ap, ap₂, sym, ◌∙◌, subst, arith, eq-or-lt_of_le}
use Rattle.std.proofs.lemmas.List.Elements.{Contains-append_right}
use Rattle.std.proofs.lemmas.Bool.{cases_lt}
use Rattle.alg_model.specs.Coefficients.{Ops, power}
use Rattle.alg_rings.specs.Laws.{RingLaws}
use Rattle.alg_rings.proofs.Rings
use Rattle.alg_rings.proofs.Rings.{expanded}
use Rattle.alg_rings.proofs.Divisibility
use Rattle.alg_divisors.proofs.Euclidean
use Rattle.alg_rings.proofs.Divisibility.{Divides}
use Rattle.alg_divisors.proofs.Euclidean.{EuclideanLaws}
use Rattle.alg_divisors.proofs.Gcd
use Rattle.alg_divisors.proofs.Gcd.{Gcd, Combination, Coprime}
use Rattle.alg_divisors.proofs.Irreducible
use Rattle.alg_divisors.proofs.Irreducible.{ProperFactor, Irreducible}
use Rattle.alg_divisors.proofs.Factorization.{product}
use Rattle.alg_rings.proofs.Powers
use Rattle.alg_rings.proofs.Modulo
use Rattle.alg_rings.proofs.Modulo.{Same}
use Rattle.alg_fields.proofs.Squares
use Rattle.alg_fields.proofs.Squares.{ProductRule}

abbrev pub Fixed : {P : Type 0} → Ops P → ℕ → P → P → Type 0
Fixed o p f v = Same o f (power o v p) v

-- v - c for each c
abbrev pub differences : {P : Type 0} → Ops P → P → List P → List P
differences o v cs = map (λ c. o.add v (o.neg c)) cs

contains_cons : {X : Type 0} (x y : X) (xs : List X) → Contains xs y → Contains (x ∷ xs) y
contains_cons x y xs h = Contains-append_right (x ∷ []) xs y h

-- a member of the list of differences is the difference of a member
pub member_of_differences : {P : Type 0} (o : Ops P) (v a : P) (cs : List P) → Contains (differences o v cs) a
    → (c : P) × Contains cs c × (o.add v (o.neg c) ≡ a)
member_of_differences o v a [] (k, l, e) = absurd (omega arith)
member_of_differences o v a (c ∷ cs) (zero, l, e) = (c, (0, omega arith, refl), e)
member_of_differences o v a (c ∷ cs) (suc k, l, e) =
    let (d, m, s) = member_of_differences o v a cs (k, omega arith, e) in (d, contains_cons c d cs m, s)

module _ {P : Type 0} {o : Ops P} (L : RingLaws o) where
  open o use {zero as O, one as I, add as ◌⊕◌, mul as ◌⊗◌, neg}

  infixl 60 ◌⊕◌
  infixl 70 ◌⊗◌
  -- the same elements modulo f are fixed
  pub fixed_same : {f v w : P} (p : ℕ) → Same o f v w → Fixed o p f v → Fixed o p f w
  fixed_same p h k =
      Modulo.same_trans L (Modulo.same_power L (Modulo.same_back L h) p) (Modulo.same_trans L k h)

  -- where the product of v - c over the members c of a list is v^p - v, f divides it
  pub fixed_divides_product : {f v : P} (p : ℕ) (cs : List P) → product o (differences o v cs) ≡ power o v p ⊕ neg v
      → Fixed o p f v → Divides o f (product o (differences o v cs))
  fixed_divides_product p cs e h = Divisibility.divides_same L (sym e) (Modulo.divides_from_same L h)

  -- v is 0 modulo g and 1 modulo h, so it is fixed modulo g * h
  pub fixed_from_parts : {g h v : P} (n : ℕ) → Divides o g v → Divides o h (v ⊕ neg I) → Fixed o (suc n) (g ⊗ h) v
  fixed_from_parts {g} {h} {v} n at_g at_h = Modulo.same_from_divides L (Divisibility.divides_same L whole both)
    where
      less_one : Divides o h (power o v n ⊕ neg I)
      less_one = Divisibility.divides_same L (ap (λ t. power o v n ⊕ neg t) (Powers.power_of_one L n))
          (Modulo.divides_from_same L (Modulo.same_power L (Modulo.same_from_divides L at_h) n))

      together : (g h r q : P) → r ⊗ q ⊗ (g ⊗ h) ≡ q ⊗ g ⊗ (r ⊗ h)
      together g h r q = simp (expanded, L)

      both : Divides o (g ⊗ h) (v ⊗ (power o v n ⊕ neg I))
      both = record {
        quotient = less_one.quotient ⊗ at_g.quotient;
        identity = together g h less_one.quotient at_g.quotient ∙ ap₂ ◌⊗◌ at_g.identity less_one.identity;
      }

      whole : v ⊗ (power o v n ⊕ neg I) ≡ power o v (suc n) ⊕ neg v
      whole = L.mul_add v (power o v n) (neg I)
          ∙ ap₂ ◌⊕◌ (L.mul_comm v (power o v n)) (Rings.mul_neg L v I ∙ ap neg (Rings.mul_one L v))

module _ {P : Type 0} {o : Ops P} {size : P → ℕ} {Monic : P → Type 0} (E : EuclideanLaws o size Monic) where
  open o use {zero as O, one as I, add as ◌⊕◌, mul as ◌⊗◌, neg}

  infixl 60 ◌⊕◌
  infixl 70 ◌⊗◌
  -- f divides a member of the list, or has a proper factor in common with one
  abbrev pub SplitBy : P → List P → Type 0
  SplitBy f members = (a : P) × Contains members a × (Divides o f a ⊎ ((g : P) × Gcd o f a g × ProperFactor o size Monic f g))

  split_later : (f a : P) (rest : List P) → SplitBy f rest → SplitBy f (a ∷ rest)
  split_later f a rest s = (s.0, contains_cons a s.0 rest s.1, s.2)

  split_step : (f : P) → 1 < size f → (a : P) (rest : List P) → Divides o f (a ⊗ product o rest)
      → (Divides o f (product o rest) → SplitBy f rest) → SplitBy f (a ∷ rest)
  split_step f l a rest h further = ⊎_elim
      (λ e. (a, (0, omega arith, refl), inl (Divisibility.divides_trans E.ring (Euclidean.associate E g.2.divides_first n (omega arith)) g.2.divides_second)))
      (λ smaller. ⊎_elim
      (λ larger. (a, (0, omega arith, refl), inr (g.0, g.2, record { monic = monic; not_constant = larger; smaller = smaller; divides = g.2.divides_first })))
      (λ small. split_later f a rest (further (Gcd.coprime_cancel E.ring (Gcd.coprime_from_gcd E g.2 (unit small)) h)))
      (cases_lt 1 (size g.0)))
      (eq-or-lt_of_le (Euclidean.size_of_divisor E g.2.divides_first n))
    where
      n : f ≢ O
      n = Euclidean.not_zero_from_size E f (omega arith)

      g : (g : P) × (Monic g ⊎ (g ≡ O)) × Gcd o f a g
      g = Gcd.monic_gcd E f a

      not_zero : g.0 ≢ O
      not_zero = Euclidean.divisor_not_zero E g.2.divides_first n

      monic : Monic g.0
      monic = ⊎_elim (λ m. m) (λ z. absurd (not_zero z)) g.1

      unit : size g.0 ≤ 1 → size g.0 ≡ 1
      unit small = omega (arith, Euclidean.size_positive E g.0 not_zero)

  -- f that divides a product divides a member, or has a proper factor in common with one
  pub splits_product : (f : P) → 1 < size f → (members : List P) → Divides o f (product o members) → SplitBy f members
  splits_product f l [] h = absurd (let e : size f ≡ 1 = Euclidean.unit_from_divisor E f h in omega arith)
  splits_product f l (a ∷ rest) h = split_step f l a rest h (λ k. splits_product f l rest k)

  -- **a fixed v is a constant modulo f, or f has a proper factor in common with some v - c**
  pub fixed_splits : {f v : P} (p : ℕ) (cs : List P) → product o (differences o v cs) ≡ power o v p ⊕ neg v → 1 < size f
      → Fixed o p f v
      → (c : P) × Contains cs c × (Same o f v c ⊎ ((g : P) × Gcd o f (v ⊕ neg c) g × ProperFactor o size Monic f g))
  fixed_splits {f} {v} p cs e l h = (c.0, c.1, subst (λ a. Same o f v c.0 ⊎ ((g : P) × Gcd o f a g × ProperFactor o size Monic f g)) (sym c.2) outcome)
    where
      s : SplitBy f (differences o v cs)
      s = splits_product f l (differences o v cs) (fixed_divides_product E.ring p cs e h)

      c : (c : P) × Contains cs c × (v ⊕ neg c ≡ s.0)
      c = member_of_differences o v s.0 cs s.1

      outcome : Same o f v c.0 ⊎ ((g : P) × Gcd o f s.0 g × ProperFactor o size Monic f g)
      outcome = ⊎_elim (λ d. inl (Modulo.same_from_divides E.ring (Divisibility.divides_same E.ring (sym c.2) d))) inr s.2

  -- where f is a product of coprime factors that aren't units, some fixed v is no constant modulo f
  pub not_constant_from_parts : {f g h v c : P} → Divides o g f → Divides o h f → 1 < size g → 1 < size h → Divides o g v
      → Divides o h (v ⊕ neg I) → size c ≤ 1 → Same o f v c → ⊥
  not_constant_from_parts {f} {g} {h} {v} {c} gf hf lg lh at_g at_h small s = ⊎_elim at_zero at_other (Rings.zero_or_not o E.ring.zero_test c)
    where
      at_other : c ≢ O → ⊥
      at_other n =
          let k : size g ≤ size c = Euclidean.size_of_divisor E (Modulo.divides_across E.ring (Modulo.same_back E.ring (Modulo.same_for_divisor E.ring gf s)) at_g) n in
          omega arith

      at_zero : c ≡ O → ⊥
      at_zero z =
          let hv : Divides o h v = Modulo.divides_across E.ring (Modulo.same_for_divisor E.ring hf s) (Divisibility.divides_same E.ring (sym z) (Divisibility.divides_zero E.ring h)) in
          let minus : Divides o h (neg I) = Divisibility.divides_rest E.ring at_h hv in
          let one : Divides o h I = Divisibility.divides_same E.ring (Rings.neg_neg E.ring I) (Divisibility.divides_negative E.ring minus) in
          let e : size h ≡ 1 = Euclidean.unit_from_divisor E h one in omega arith

  -- **a product of coprime factors that aren't units has a fixed v, smaller than it, that is no constant**
  pub fixed_from_factors : {f g h : P} (n : ℕ) → Coprime o g h → g ⊗ h ≡ f → 1 < size g → 1 < size h
      → (v : P) × (size v < size f) × Fixed o (suc n) f v × (1 < size v)
  fixed_from_factors {f} {g} {h} n k e lg lh = (r.1, r.3, fixed, large)
    where
      gh_not_zero : f ≢ O
      gh_not_zero z = Euclidean.product_not_zero E g h (Euclidean.not_zero_from_size E g (omega arith))
          (Euclidean.not_zero_from_size E h (omega arith)) (e ∙ z)

      v : (v : P) × Divides o g v × Divides o h (v ⊕ neg I)
      v = Gcd.chinese E.ring k

      r : (q : P) × (r : P) × (v.0 ≡ q ⊗ f ⊕ r) × (size r < size f)
      r = E.divide v.0 f gh_not_zero

      s : Same o f v.0 r.1
      s = record { quotient = r.0; identity = r.2 }

      fixed : Fixed o (suc n) f r.1
      fixed = fixed_same E.ring (suc n) s (subst (λ t. Fixed o (suc n) t v.0) e (fixed_from_parts E.ring n v.1 v.2))

      large : 1 < size r.1
      large = ⊎_elim (λ l. l)
          (λ small. absurd (not_constant_from_parts (Divisibility.divides_same E.ring e (Divisibility.divides_product_left E.ring g h))
          (Divisibility.divides_same E.ring e (Divisibility.divides_product E.ring h g)) lg lh v.1 v.2 small s))
          (cases_lt 1 (size r.1))

  power_not_zero : (g : P) (n : ℕ) → g ≢ O → power o g n ≢ O
  power_not_zero g zero h = Euclidean.one_not_zero E
  power_not_zero g (suc n) h = Euclidean.product_not_zero E (power o g n) g (power_not_zero g n h) h

  power_of_unit : (g : P) (n : ℕ) → size g ≡ 1 → size (power o g n) ≡ 1
  power_of_unit g zero h = E.size_one
  power_of_unit g (suc n) h =
      let n0 : g ≢ O = Euclidean.not_zero_from_size E g (omega arith) in
      let s : suc (size (power o g n ⊗ g)) ≡ size (power o g n) + size g = E.size_mul (power o g n) g (power_not_zero g n n0) n0 in
      let u : size (power o g n) ≡ 1 = power_of_unit g n h in
      omega arith

  -- no power above the first is irreducible
  pub power_not_irreducible : {f : P} (g : P) (n : ℕ) → power o g (suc (suc n)) ≡ f → Irreducible o size Monic f → ⊥
  power_not_irreducible {f} g n e i = ⊎_elim unit (λ d. unit (small d)) (Irreducible.divisor_of_irreducible E i g_divides)
    where
      larger : 1 < size f
      larger = i.not_constant

      g_divides : Divides o g f
      g_divides = Divisibility.divides_same E.ring e (Divisibility.divides_product E.ring g (power o g (suc n)))

      not_zero : g ≢ O
      not_zero = Euclidean.divisor_not_zero E g_divides (Euclidean.not_zero_from_size E f (omega arith))

      unit : size g ≡ 1 → ⊥
      unit h = let k : size f ≡ 1 = sym (ap size e) ∙ power_of_unit g (suc (suc n)) h in omega arith

      small : Divides o f g → size g ≡ 1
      small d =
          let m : power o g (suc n) ≢ O = power_not_zero g (suc n) not_zero in
          let s : suc (size (power o g (suc n) ⊗ g)) ≡ size (power o g (suc n)) + size g = E.size_mul (power o g (suc n)) g m not_zero in
          let t : size (power o g (suc n) ⊗ g) ≡ size f = ap size e in
          let k : size f ≤ size g = Euclidean.size_of_divisor E d not_zero in
          let j : size g ≤ size (power o g (suc n)) = Euclidean.size_of_divisor E (Divisibility.divides_product E.ring g (power o g n)) m in
          let positive : 0 < size g = Euclidean.size_positive E g not_zero in
          omega arith

  module _ {D : P → P} (rule : ProductRule o D) where
    -- **the certificate**: f is irreducible if it is coprime to its derivative and all that is fixed modulo it is constant
    pub irreducible_from_certificate : {f : P} (n : ℕ) → 1 < size f → Coprime o f (D f)
        → ((v : P) → size v < size f → Fixed o (suc n) f v → size v ≤ 1) → Irreducible o size Monic f
    irreducible_from_certificate {f} n l c constant = record { not_constant = l; no_factor = none }
      where
        none : (g : P) → ProperFactor o size Monic f g → ⊥
        none g factor =
            let s : suc (size f) ≡ size factor.divides.quotient + size g =
            Euclidean.size_of_quotient E factor.divides (Euclidean.not_zero_from_size E f (omega arith)) in
            let smaller : size g < size f = factor.smaller in
            let k : Coprime o factor.divides.quotient g = Squares.coprime_factors E.ring rule factor.divides.quotient g c factor.divides.identity in
            let (v, below, fixed, large) = fixed_from_factors n k factor.divides.identity (omega arith) factor.not_constant in
            let small : size v ≤ 1 = constant v below fixed in omega arith

  -- **the converse**: an irreducible f is coprime to its derivative, where what has derivative zero is a power
  pub coprime_derivative : {f : P} (D : P → P) (p : ℕ) → Irreducible o size Monic f → 1 < p → size (D f) < size f
      → (D f ≡ O → (g : P) × (power o g p ≡ f)) → Coprime o f (D f)
  coprime_derivative {f} D p i l smaller root = ⊎_elim (λ c. c)
      (λ d. ⊎_elim (λ z. absurd (let (g, e) = root z in power_not_irreducible g (pred (pred p)) (ap (power o g) exponent ∙ e) i))
      (λ n. absurd (let k : size f ≤ size (D f) = Euclidean.size_of_divisor E d n in omega arith))
      (Rings.zero_or_not o E.ring.zero_test (D f)))
      (Irreducible.coprime_or_divides E i (D f))
    where
      exponent : suc (suc (pred (pred p))) ≡ p
      exponent = omega arith

  -- what is fixed modulo an irreducible f and smaller than it is one of the constants
  pub fixed_constant : {f v : P} (p : ℕ) (cs : List P) → Irreducible o size Monic f
      → product o (differences o v cs) ≡ power o v p ⊕ neg v → ((c : P) → Contains cs c → size (v ⊕ neg c) < size f)
      → Fixed o p f v → Contains cs v
  fixed_constant {f} {v} p cs i e smaller h = subst (λ w. Contains cs w) (sym equal) s.1
    where
      s : (c : P) × Contains cs c × (Same o f v c ⊎ ((g : P) × Gcd o f (v ⊕ neg c) g × ProperFactor o size Monic f g))
      s = fixed_splits p cs e i.not_constant h

      d : Divides o f (v ⊕ neg s.0)
      d = ⊎_elim (λ k. Modulo.divides_from_same E.ring k) (λ g. absurd (i.no_factor g.0 g.2)) s.2

      equal : v ≡ s.0
      equal = Rings.same_from_difference E.ring v s.0 (⊎_elim (λ z. z)
          (λ n. absurd (let k : size f ≤ size (v ⊕ neg s.0) = Euclidean.size_of_divisor E d n in
          let l : size (v ⊕ neg s.0) < size f = smaller s.0 s.1 in omega arith))
          (Rings.zero_or_not o E.ring.zero_test (v ⊕ neg s.0)))
