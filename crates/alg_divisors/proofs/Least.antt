-- The least factor, by an order that puts what is smaller first: it is irreducible, and it is the least of the factors in a
-- factorization.
--     SmallerFirst size Before       what is smaller comes before, and what comes before isn't larger
--     LeastFactor .. f g             a proper factor of f, with none before it
--     LeastMember Before fs g        a member of fs, with none before it
use Rattle.std.proofs.Common.{◌≡◌, ◌≢◌, ⊎_elim, ℕ, zero, suc, ◌+◌, ◌<◌, ◌≤◌, sym, refl, ap, ◌∙◌, subst, arith, List, [], ◌∷◌, ◌++◌, length, take, drop, All, Contains, IsPermutation, Ordering, Less, Equal, eq-or-lt_of_le}
use Rattle.std.proofs.Math.Seq.{split_at}
use Rattle.std.proofs.lemmas.List.Elements.{All-head, All-tail, All-contains, Contains-append_right, Contains-append_cases}
use Rattle.std.proofs.lemmas.List.Sorted.{IsPermutation-middle, All-permutation, length_permutation}
use Rattle.std.specs.Cmp.{IsTotalOrder}
use Rattle.std.proofs.lemmas.Cmp.{tied_itself}
use Rattle.alg_model.specs.Coefficients.{Ops}
use Rattle.alg_rings.proofs.Rings.{mul_one}
use Rattle.alg_rings.proofs.Divisibility.{Divides, divides_same, divides_product_left}
use Rattle.alg_divisors.proofs.Euclidean.{EuclideanLaws, monic_same, monic_not_zero, size_of_divisor, size_positive}
use Rattle.alg_divisors.proofs.Irreducible.{ProperFactor, Irreducible, factor_of_factor}
use Rattle.alg_divisors.proofs.Factorization.{product, MonicIrreducible, Factored, product_middle, member_divides, monic_product}

pub record SmallerFirst {R : Type 0} (size : R → ℕ) (Before : R → R → Type 0) : Type 0 where
  pub smaller : (a b : R) → size a < size b → Before a b
  pub not_larger : (a b : R) → Before a b → size a ≤ size b

pub record LeastFactor {R : Type 0} (o : Ops R) (size : R → ℕ) (Monic : R → Type 0) (Before : R → R → Type 0) (f g : R) : Type 0 where
  pub factor : ProperFactor o size Monic f g
  pub least : (h : R) → ProperFactor o size Monic f h → Before h g → ⊥

pub record LeastMember {R : Type 0} (Before : R → R → Type 0) (fs : List R) (g : R) : Type 0 where
  pub member : Contains fs g
  pub least : (h : R) → Contains fs h → Before h g → ⊥

-- a member stands between what comes before it and what follows
pub around_member : {X : Type 0} (xs : List X) (x : X) → Contains xs x → (us : List X) × (ys : List X) × (xs ≡ us ++ x ∷ ys)
around_member xs x h = (take h.0 xs, drop (suc h.0) xs, split_at xs h.0 x h.1 ∙ ap (λ t. take h.0 xs ++ t ∷ drop (suc h.0) xs) h.2)

pub contains_middle : {X : Type 0} (us : List X) (x : X) (ys xs : List X) → xs ≡ us ++ x ∷ ys → Contains xs x
contains_middle us x ys xs e = subst (λ t. Contains t x) (sym e) (Contains-append_right us (x ∷ ys) x (0, omega arith, refl))

pub contains_one : {X : Type 0} (x y : X) → Contains (x ∷ []) y → x ≡ y
contains_one x y (zero, l, e) = e
contains_one x y (suc k, l, e) = absurd (omega arith)

-- a list with members has a least one, in a total order
module _ {X : Type 0} {cmp : X → X → Ordering} (T : IsTotalOrder cmp) where
  not_before_itself : (x y : X) → x ≡ y → cmp y x ≡ Less → ⊥
  not_before_itself x y e l = let t : cmp x x ≡ Equal = tied_itself T x in let k : cmp x x ≡ Less = subst (λ z. cmp z x ≡ Less) (sym e) l in cc

  least_step : (x y : X) (ys : List X) → (m : (g : X) × LeastMember (λ x y. cmp x y ≡ Less) (y ∷ ys) g)
      → (r : Ordering) → cmp x m.0 ≡ r → (g : X) × LeastMember (λ x y. cmp x y ≡ Less) (x ∷ y ∷ ys) g
  least_step x y ys m Less e = (x, record { member = (0, omega arith, refl); least = none })
    where
      none : (h : X) → Contains (x ∷ y ∷ ys) h → cmp h x ≡ Less → ⊥
      none h c l = ⊎_elim
          (λ k. not_before_itself x h (contains_one x h k) l)
          (λ k. m.1.least h k (T.trans h x m.0 l e)) (Contains-append_cases (x ∷ []) (y ∷ ys) h c)
  least_step x y ys m r e = (m.0, record { member = Contains-append_right (x ∷ []) (y ∷ ys) m.0 m.1.member; least = none })
    where
      none : (h : X) → Contains (x ∷ y ∷ ys) h → cmp h m.0 ≡ Less → ⊥
      none h c l = ⊎_elim
          (λ k. let d : cmp x m.0 ≡ Less = subst (λ z. cmp z m.0 ≡ Less) (sym (contains_one x h k)) l in cc)
          (λ k. m.1.least h k l) (Contains-append_cases (x ∷ []) (y ∷ ys) h c)

  pub least_of_list : (x : X) (xs : List X) → (g : X) × LeastMember (λ x y. cmp x y ≡ Less) (x ∷ xs) g
  least_of_list x [] = (
    x,
    record {
      member = (0, omega arith, refl);
      least = λ h c l. not_before_itself x h (contains_one x h c) l;
    },
  )
  least_of_list x (y ∷ ys) = let m : (g : X) × LeastMember (λ x y. cmp x y ≡ Less) (y ∷ ys) g = least_of_list y ys in
      least_step x y ys m (cmp x m.0) refl

module _ {R : Type 0} {o : Ops R} {size : R → ℕ} {Monic : R → Type 0} (E : EuclideanLaws o size Monic) where
  open o use {zero as O, one as I, add as ◌⊕◌, mul as ◌⊗◌, neg}

  infixl 60 ◌⊕◌
  infixl 70 ◌⊗◌
  pub member_product : (fs : List R) (g : R) → Contains fs g → Divides o g (product o fs)
  member_product fs g h = divides_same E.ring
      (sym (ap (λ t. product o t) s.2 ∙ product_middle E.ring s.0 g s.1))
      (divides_product_left E.ring g (product o (s.0 ++ s.1)))
    where
      s : (us : List R) × (ys : List R) × (fs ≡ us ++ g ∷ ys)
      s = around_member fs g h

  -- a product of one or more factors isn't a unit
  pub product_larger : (fs : List R) → All (MonicIrreducible o size Monic) fs → 0 < length fs → 1 < size (product o fs)
  product_larger [] a l = absurd (omega arith)
  product_larger (f ∷ fs) a l =
      let i : MonicIrreducible o size Monic f = All-head (MonicIrreducible o size Monic) f fs a in
      let n : product o fs ≢ O = monic_not_zero E (product o fs) (monic_product E fs (All-tail (MonicIrreducible o size Monic) f fs a)) in
      let e : suc (size (f ⊗ product o fs)) ≡ size f + size (product o fs) = E.size_mul f (product o fs) (monic_not_zero E f i.monic) n in
      let j : 1 < size f = i.irreducible.not_constant in
      let k : 0 < size (product o fs) = size_positive E (product o fs) n in omega arith

  -- a product of two or more factors is larger than each
  pub member_smaller : (fs : List R) (g : R) → All (MonicIrreducible o size Monic) fs → Contains fs g → 2 ≤ length fs
      → size g < size (product o fs)
  member_smaller fs g a h l =
      let n : product o (s.0 ++ s.1) ≢ O = monic_not_zero E (product o (s.0 ++ s.1)) (monic_product E (s.0 ++ s.1) rest) in
      let m : g ≢ O = monic_not_zero E g (All-contains (MonicIrreducible o size Monic) fs g a h).monic in
      let e : suc (size (g ⊗ product o (s.0 ++ s.1))) ≡ size g + size (product o (s.0 ++ s.1)) = E.size_mul g (product o (s.0 ++ s.1)) m n in
      let k : 1 < size (product o (s.0 ++ s.1)) = product_larger (s.0 ++ s.1) rest enough in
      let j : size (product o fs) ≡ size (g ⊗ product o (s.0 ++ s.1)) = ap (λ t. size (product o t)) s.2 ∙ ap size (product_middle E.ring s.0 g s.1) in
      omega arith
    where
      s : (us : List R) × (ys : List R) × (fs ≡ us ++ g ∷ ys)
      s = around_member fs g h

      moved : IsPermutation fs (g ∷ (s.0 ++ s.1))
      moved = subst (λ t. IsPermutation t (g ∷ (s.0 ++ s.1))) (sym s.2) (IsPermutation-middle s.0 g s.1)

      rest : All (MonicIrreducible o size Monic) (s.0 ++ s.1)
      rest = All-tail (MonicIrreducible o size Monic) g (s.0 ++ s.1)
          (All-permutation (MonicIrreducible o size Monic) fs (g ∷ (s.0 ++ s.1)) moved a)

      enough : 0 < length (s.0 ++ s.1)
      enough = let e : suc (length (s.0 ++ s.1)) ≡ length fs = length_permutation fs (g ∷ (s.0 ++ s.1)) moved in omega arith

  pub member_proper : (fs : List R) (g : R) → All (MonicIrreducible o size Monic) fs → Contains fs g → 2 ≤ length fs
      → ProperFactor o size Monic (product o fs) g
  member_proper fs g a h l = record {
    monic = i.monic;
    not_constant = i.irreducible.not_constant;
    smaller = member_smaller fs g a h l;
    divides = member_product fs g h;
  }
    where
      i : MonicIrreducible o size Monic g
      i = All-contains (MonicIrreducible o size Monic) fs g a h

  module _ {Before : R → R → Type 0} (B : SmallerFirst size Before) where
    pub least_irreducible : {f g : R} → LeastFactor o size Monic Before f g → Irreducible o size Monic g
    least_irreducible {f} {g} l = record {
      not_constant = l.factor.not_constant;
      no_factor = λ h p. l.least h (factor_of_factor E l.factor p) (B.smaller h g p.smaller);
    }

    -- the least of the factors is the least factor
    pub least_member : (fs : List R) (g : R) → All (MonicIrreducible o size Monic) fs → 2 ≤ length fs → LeastMember Before fs g
        → LeastFactor o size Monic Before (product o fs) g
    least_member fs g a l m = record {
      factor = member_proper fs g a m.member l;
      least = λ h p b. none h p b (member_divides E fs a h p.not_constant p.divides);
    }
      where
        none : (h : R) → ProperFactor o size Monic (product o fs) h → Before h g
            → (xs : List R) × (p : R) × (ys : List R) × (fs ≡ xs ++ p ∷ ys) × Divides o p h → ⊥
        none h p b s = ⊎_elim
            (λ e. m.least s.1 inside (subst (λ t. Before t g) (sym (monic_same E s.4 i.monic p.monic (omega arith))) b))
            (λ k. m.least s.1 inside (B.smaller s.1 g (let j : size h ≤ size g = B.not_larger h g b in omega arith)))
            (eq-or-lt_of_le (size_of_divisor E s.4 (monic_not_zero E h p.monic)))
          where
            inside : Contains fs s.1
            inside = contains_middle s.0 s.1 s.2 fs s.3

            i : MonicIrreducible o size Monic s.1
            i = All-contains (MonicIrreducible o size Monic) fs s.1 a inside

module _ {R : Type 0} {o : Ops R} {size : R → ℕ} {Monic : R → Type 0} (E : EuclideanLaws o size Monic)
    {cmp : R → R → Ordering} (T : IsTotalOrder cmp) (B : SmallerFirst size (λ x y. cmp x y ≡ Less)) where
  open o use {zero as O, one as I, mul as ◌⊗◌}

  infixl 70 ◌⊗◌
  -- what has a proper factor has at least two factors, the least of which is its least factor
  least_of_factors : (fs : List R) → All (MonicIrreducible o size Monic) fs → (g : R) → ProperFactor o size Monic (product o fs) g
      → (h : R) × LeastFactor o size Monic (λ x y. cmp x y ≡ Less) (product o fs) h
  least_of_factors [] a g p = absurd (let s : size I ≡ 1 = E.size_one in let l : size g < size I = p.smaller in let k : 1 < size g = p.not_constant in omega arith)
  least_of_factors (f ∷ []) a g p = absurd ((All-head (MonicIrreducible o size Monic) f [] a).irreducible.no_factor g
      (subst (λ t. ProperFactor o size Monic t g) (mul_one E.ring f) p))
  least_of_factors (f ∷ k ∷ fs) a g p =
      let m : (g : R) × LeastMember (λ x y. cmp x y ≡ Less) (f ∷ k ∷ fs) g = least_of_list T f (k ∷ fs) in
      (m.0, least_member E B (f ∷ k ∷ fs) m.0 a (omega arith) m.1)

  pub least_factor_exists : {f g : R} → Factored o size Monic f → ProperFactor o size Monic f g
      → (h : R) × LeastFactor o size Monic (λ x y. cmp x y ≡ Less) f h
  least_factor_exists {f} {g} r p = subst (λ t. (h : R) × LeastFactor o size Monic (λ x y. cmp x y ≡ Less) t h) r.product_is
      (least_of_factors r.factors r.irreducible g (subst (λ t. ProperFactor o size Monic t g) (sym r.product_is) p))
