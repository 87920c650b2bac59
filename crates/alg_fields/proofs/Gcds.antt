-- A monic f that divides a product of pairwise coprime elements is the product of its greatest common divisors with them.
use Rattle.std.proofs.Common.{◌≡◌, ◌≢◌, ◌⊎◌, ⊎_elim, ℕ, suc, ◌<◌, List, [], ◌∷◌, length, slice_index_or, AllPairs, ap, ap₂, sym, ◌∙◌, arith}
use Rattle.alg_model.specs.Coefficients.{Ops}
use Rattle.alg_rings.specs.Laws.{RingLaws}
use Rattle.alg_rings.proofs.Rings
use Rattle.alg_rings.proofs.Rings.{expanded}
use Rattle.alg_rings.proofs.Divisibility
use Rattle.alg_divisors.proofs.Euclidean
use Rattle.alg_rings.proofs.Divisibility.{Divides}
use Rattle.alg_divisors.proofs.Euclidean.{EuclideanLaws}
use Rattle.alg_divisors.proofs.Gcd
use Rattle.alg_divisors.proofs.Gcd.{Gcd, Combination, Coprime}
use Rattle.alg_divisors.proofs.Factorization.{product}

module _ {P : Type 0} {o : Ops P} (L : RingLaws o) where
  open o use {zero as O, one as I, add as ◌⊕◌, mul as ◌⊗◌, neg}

  infixl 60 ◌⊕◌
  infixl 70 ◌⊗◌
  pub coprime_to_one : (a : P) → Coprime o a I
  coprime_to_one a = record { first = O; second = I; identity = ap₂ ◌⊕◌ (Rings.zero_mul L a) (L.one_mul I) ∙ L.zero_add I }

  -- divisors of coprime elements are coprime
  pub coprime_divisors : {a b g h : P} → Coprime o a b → Divides o g a → Divides o h b → Coprime o g h
  coprime_divisors {a} {b} {g} {h} k d e = record {
    first = k.first ⊗ d.quotient;
    second = k.second ⊗ e.quotient;
    identity = ap₂ ◌⊕◌ (L.mul_assoc k.first d.quotient g ∙ ap (λ t. k.first ⊗ t) d.identity)
        (L.mul_assoc k.second e.quotient h ∙ ap (λ t. k.second ⊗ t) e.identity) ∙ k.identity;
  }

  -- v - c and v - d are coprime where d - c is a unit
  pub coprime_differences : (v : P) {c d : P} → Divides o (d ⊕ neg c) I → Coprime o (v ⊕ neg c) (v ⊕ neg d)
  coprime_differences v {c} {d} u = record {
    first = u.quotient;
    second = neg u.quotient;
    identity = ap (λ t. u.quotient ⊗ (v ⊕ neg c) ⊕ t) (Rings.neg_mul L u.quotient (v ⊕ neg d) ∙ sym (Rings.mul_neg L u.quotient (v ⊕ neg d)))
        ∙ sym (L.mul_add u.quotient (v ⊕ neg c) (neg (v ⊕ neg d))) ∙ ap (λ t. u.quotient ⊗ t) rest ∙ u.identity;
  }
    where
      rest : v ⊕ neg c ⊕ neg (v ⊕ neg d) ≡ d ⊕ neg c
      rest = ap (λ t. v ⊕ neg c ⊕ t) (Rings.neg_sum L v (neg d) ∙ ap (λ t. neg v ⊕ t) (Rings.neg_neg L d))
          ∙ Rings.add_swap L v (neg c) (neg v) d ∙ ap (λ t. t ⊕ (neg c ⊕ d)) (L.add_neg v) ∙ L.zero_add (neg c ⊕ d)
          ∙ L.add_comm (neg c) d

module _ {P : Type 0} {o : Ops P} {size : P → ℕ} {Monic : P → Type 0} (E : EuclideanLaws o size Monic) where
  open o use {zero as O, one as I, add as ◌⊕◌, mul as ◌⊗◌, neg}

  infixl 60 ◌⊕◌
  infixl 70 ◌⊗◌
  abbrev pub gcds : P → List P → List P
  gcds f [] = []
  gcds f (a ∷ rest) = (Gcd.monic_gcd E f a).0 ∷ gcds f rest

  module _ (f : P) where
    abbrev gcd_of : (a : P) → (g : P) × (Monic g ⊎ (g ≡ O)) × Gcd o f a g
    gcd_of a = Gcd.monic_gcd E f a

    coprime_to_gcds : (a : P) (members : List P) → ((k : ℕ) (d : P) → k < length members → Coprime o a (slice_index_or members k d))
        → Coprime o a (product o (gcds f members))
    coprime_to_gcds a [] h = coprime_to_one E.ring a
    coprime_to_gcds a (b ∷ rest) h =
        Gcd.coprime_product E.ring
        (coprime_divisors E.ring (h 0 b (omega arith)) (Divisibility.divides_itself E.ring a) (gcd_of b).2.divides_second)
        (coprime_to_gcds a rest (λ k d l. h (suc k) d (omega arith)))

    product_of_gcds_divides : (members : List P) → AllPairs (λ a b. Coprime o a b) members → Divides o (product o (gcds f members)) f
    product_of_gcds_divides [] h = Divisibility.one_divides E.ring f
    product_of_gcds_divides (a ∷ rest) h =
        Gcd.coprime_product_divides E.ring
        (coprime_divisors E.ring (coprime_to_gcds a rest (λ k d l. h 0 (suc k) d (omega arith) (omega arith))) (gcd_of a).2.divides_second
        (Divisibility.divides_itself E.ring (product o (gcds f rest))))
        (gcd_of a).2.divides_first
        (product_of_gcds_divides rest (λ i j d l k. h (suc i) (suc j) d (omega arith) (omega arith)))

    product_of_gcds_divided : (members : List P) (x : P) → Divides o f (x ⊗ product o members) → Divides o f (x ⊗ product o (gcds f members))
    product_of_gcds_divided [] x h = h
    product_of_gcds_divided (a ∷ rest) x h =
        let c : Combination o f a (gcd_of a).0 = (gcd_of a).2.combination in
        let G : P = product o (gcds f rest) in
        let further : Divides o f (x ⊗ c.second ⊗ a ⊗ G) =
        product_of_gcds_divided rest (x ⊗ c.second ⊗ a)
        (Divisibility.divides_same E.ring (gather x c.second a (product o rest)) (Divisibility.divides_multiple E.ring c.second h)) in
        Divisibility.divides_same E.ring
        (apart f a x G c.first c.second ∙ ap (λ t. x ⊗ (t ⊗ G)) c.identity)
        (Divisibility.divides_sum E.ring (Divisibility.divides_product E.ring f (x ⊗ c.first ⊗ G)) further)
      where
        gather : (x w a r : P) → w ⊗ (x ⊗ (a ⊗ r)) ≡ x ⊗ w ⊗ a ⊗ r
        gather x w a r = simp (expanded, E.ring)

        apart : (f a x g u w : P) → x ⊗ u ⊗ g ⊗ f ⊕ x ⊗ w ⊗ a ⊗ g ≡ x ⊗ ((u ⊗ f ⊕ w ⊗ a) ⊗ g)
        apart f a x g u w = simp (expanded, E.ring)

    monic_gcds : f ≢ O → (members : List P) → Monic (product o (gcds f members))
    monic_gcds n [] = E.one_monic
    monic_gcds n (a ∷ rest) =
        E.monic_mul (gcd_of a).0 (product o (gcds f rest))
        (⊎_elim (λ m. m) (λ z. absurd (Euclidean.divisor_not_zero E (gcd_of a).2.divides_first n z)) (gcd_of a).1)
        (monic_gcds n rest)

    -- **f is the product of its gcds**
    pub product_of_gcds : Monic f → (members : List P) → AllPairs (λ a b. Coprime o a b) members → Divides o f (product o members)
        → product o (gcds f members) ≡ f
    product_of_gcds m members h d =
        Euclidean.monic_unique E (product_of_gcds_divides members h)
        (Divisibility.divides_same E.ring (E.ring.one_mul (product o (gcds f members)))
        (product_of_gcds_divided members I (Divisibility.divides_same E.ring (sym (E.ring.one_mul (product o members))) d)))
        (monic_gcds (Euclidean.monic_not_zero E f m) members) m
