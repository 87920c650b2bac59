-- Divisors of polynomials over a field: greatest common divisors, Bezout, Euclid's lemma, Chinese remainders, factorizations.
use Rattle.std.proofs.Common.{◌≡◌, ◌⊎◌, ⊎_elim, inl, inr, sym, refl, ap, ◌∙◌, subst, List, [], ◌∷◌, length, map, All, IsPermutation}
use Rattle.std.proofs.lemmas.List.Elements.{All-nil, All-cons, All-head, All-tail}
use Rattle.std.proofs.lemmas.List.Sorted.{IsPermutation-map}
use Rattle.alg_model.specs.Coefficients.{Carrier}
use Rattle.alg_model.specs.Polynomials.{trim, poly_product, poly_difference}
use Rattle.alg_model.specs.Factors.{IsPolynomial, IsMonic, Divides, IsGreatestCommonDivisor, IsProperFactor, IsIrreducible}
use Rattle.alg_model.specs.Fields.{IsField}
use Rattle.alg_rings.specs.Laws.{IsPropositional}
use Rattle.alg_rings.proofs.Divisors.{Polynomial, polynomial_ops, same_polynomial, divided_is_polynomial}
use Rattle.alg_rings.proofs.Divisibility
use Rattle.alg_divisors.specs.Factorization.{product_of, IsFactorization, IsCombination, AreCoprime}
use Rattle.alg_divisors.proofs.Gcd
use Rattle.alg_divisors.proofs.Irreducible
use Rattle.alg_divisors.proofs.Factorization
use Rattle.alg_divisors.proofs.EuclideanPolynomials.{over_field}

module _ {A : Type 0} {c : Carrier A} (P : IsPropositional c) (F : IsField c) where
  open over_field P F use {ops as Q, size, Monic, laws as E}

  same : (f g : Polynomial c) → f.0 ≡ g.0 → f ≡ g
  same f g e = same_polynomial P F.ring f g e

  abbrev list_of : Polynomial c → List A
  list_of f = f.0

  -- ---- the theory's words and the carrier's
  pub divides_to : (f g : Polynomial c) → Divisibility.Divides (polynomial_ops P F.ring) f g → Divides c f.0 g.0
  divides_to f g h = (h.quotient.0, h.quotient.1, ap list_of h.identity)

  pub divides_from : (f g : Polynomial c) → Divides c f.0 g.0 → Divisibility.Divides (polynomial_ops P F.ring) f g
  divides_from f g h = record { quotient = (h.0, h.1); identity = same (Q.mul (h.0, h.1) f) g h.2 }

  pub combination_to : (a b g : Polynomial c) → Gcd.Combination Q a b g → IsCombination c a.0 b.0 g.0
  combination_to a b g k = record {
    first = k.first.0;
    second = k.second.0;
    first_polynomial = k.first.1;
    second_polynomial = k.second.1;
    identity = ap list_of k.identity;
  }

  pub combination_from : (a b g : Polynomial c) → IsCombination c a.0 b.0 g.0 → Gcd.Combination Q a b g
  combination_from a b g k = record {
    first = (k.first, k.first_polynomial);
    second = (k.second, k.second_polynomial);
    identity = same (Q.add (Q.mul (k.first, k.first_polynomial) a) (Q.mul (k.second, k.second_polynomial) b)) g k.identity;
  }

  pub proper_to : (f g : Polynomial c) → Irreducible.ProperFactor (polynomial_ops P F.ring) (λ f. length f.0) (λ f. IsMonic c f.0) f g
      → IsProperFactor c f.0 g.0
  proper_to f g p = record {
    polynomial = g.1;
    monic = p.monic;
    not_constant = p.not_constant;
    smaller = p.smaller;
    divides = divides_to g f p.divides;
  }

  pub proper_from : (f g : Polynomial c) → IsProperFactor c f.0 g.0
      → Irreducible.ProperFactor (polynomial_ops P F.ring) (λ f. length f.0) (λ f. IsMonic c f.0) f g
  proper_from f g p = record {
    monic = p.monic;
    not_constant = p.not_constant;
    smaller = p.smaller;
    divides = divides_from g f p.divides;
  }

  pub irreducible_to : (f : Polynomial c) → Irreducible.Irreducible (polynomial_ops P F.ring) (λ f. length f.0) (λ f. IsMonic c f.0) f
      → IsIrreducible c f.0
  irreducible_to f i = record {
    polynomial = f.1;
    not_constant = i.not_constant;
    no_factor = λ g p. i.no_factor (g, p.polynomial) (proper_from f (g, p.polynomial) p);
  }

  pub irreducible_from : (f : Polynomial c) → IsIrreducible c f.0
      → Irreducible.Irreducible (polynomial_ops P F.ring) (λ f. length f.0) (λ f. IsMonic c f.0) f
  irreducible_from f i = record {
    not_constant = i.not_constant;
    no_factor = λ g p. i.no_factor g.0 (proper_to f g p);
  }

  -- ---- greatest common divisors
  monic_or_zero_from : (g : Polynomial c) → Monic g ⊎ (g.0 ≡ []) → Monic g ⊎ (g ≡ Q.zero)
  monic_or_zero_from g m = ⊎_elim inl (λ e. inr (same g Q.zero e)) m

  pub gcd_to : (a b g : Polynomial c) → Monic g ⊎ (g.0 ≡ []) → Gcd.Gcd Q a b g → IsGreatestCommonDivisor c a.0 b.0 g.0
  gcd_to a b g m k = record {
    polynomial = g.1;
    monic_or_zero = m;
    divides_first = divides_to g a k.divides_first;
    divides_second = divides_to g b k.divides_second;
    greatest = λ h p d e. divides_to (h, p) g
        (Gcd.gcd_greatest E.ring k (divides_from (h, p) a d) (divides_from (h, p) b e));
  }

  pub gcd_exists : (a b : List A) → IsPolynomial c a → IsPolynomial c b → (g : List A) × IsGreatestCommonDivisor c a b g
  gcd_exists a b p q =
      let g : (g : Polynomial c) × (Monic g ⊎ (g ≡ Q.zero)) × Gcd.Gcd Q (a, p) (b, q) g = Gcd.monic_gcd E (a, p) (b, q) in
      (g.0.0, gcd_to (a, p) (b, q) g.0 (⊎_elim inl (λ e. inr (ap list_of e)) g.1) g.2)

  pub gcd_unique : {a b g h : List A} → IsGreatestCommonDivisor c a b g → IsGreatestCommonDivisor c a b h → g ≡ h
  gcd_unique {a} {b} {g} {h} p q = ap list_of (Gcd.monic_or_zero_unique E
      (monic_or_zero_from (g, p.polynomial) p.monic_or_zero) (monic_or_zero_from (h, q.polynomial) q.monic_or_zero)
      (divides_from (g, p.polynomial) (h, q.polynomial) (q.greatest g p.polynomial p.divides_first p.divides_second))
      (divides_from (h, q.polynomial) (g, p.polynomial) (p.greatest h q.polynomial q.divides_first q.divides_second)))

  -- Bezout: the greatest common divisor is a combination
  pub bezout : {a b g : List A} → IsGreatestCommonDivisor c a b g → IsCombination c a b g
  bezout {a} {b} {g} k = combination_to x y (g, k.polynomial) (Gcd.combination_multiple E.ring h.1.combination
      (divides_from h.0 (g, k.polynomial)
      (k.greatest h.0.0 h.0.1 (divides_to h.0 x h.1.divides_first) (divides_to h.0 y h.1.divides_second))))
    where
      x : Polynomial c
      x = (a, divided_is_polynomial P F.ring g a k.polynomial k.divides_first)

      y : Polynomial c
      y = (b, divided_is_polynomial P F.ring g b k.polynomial k.divides_second)

      h : (h : Polynomial c) × Gcd.Gcd Q x y h
      h = Gcd.gcd_exists E x y

  -- a common divisor that is a combination is the greatest
  pub gcd_from_combination : (a b g : List A) → IsPolynomial c g → IsMonic c g ⊎ (g ≡ []) → Divides c g a → Divides c g b
      → IsCombination c a b g → IsGreatestCommonDivisor c a b g
  gcd_from_combination a b g p m d e k = gcd_to x y (g, p) m (record {
    divides_first = divides_from (g, p) x d;
    divides_second = divides_from (g, p) y e;
    combination = combination_from x y (g, p) k;
  })
    where
      x : Polynomial c
      x = (a, divided_is_polynomial P F.ring g a p d)

      y : Polynomial c
      y = (b, divided_is_polynomial P F.ring g b p e)

  -- ---- coprime polynomials
  pub coprime_product_divides : (a b f : List A) → IsPolynomial c a → IsPolynomial c b → AreCoprime c a b
      → Divides c a f → Divides c b f → Divides c (poly_product c.ops a b) f
  coprime_product_divides a b f p q k d e =
      let x : Polynomial c = (a, p) in
      let y : Polynomial c = (b, q) in
      let z : Polynomial c = (f, divided_is_polynomial P F.ring a f p d) in
      divides_to (Q.mul x y) z (Gcd.coprime_product_divides E.ring (combination_from x y Q.one k) (divides_from x z d) (divides_from y z e))

  -- of coprime polynomials one that divides a product with the other divides the rest
  pub coprime_cancel : (a b f : List A) → IsPolynomial c a → IsPolynomial c b → IsPolynomial c f → AreCoprime c a b
      → Divides c a (poly_product c.ops b f) → Divides c a f
  coprime_cancel a b f p q r k d =
      let x : Polynomial c = (a, p) in
      let y : Polynomial c = (b, q) in
      let z : Polynomial c = (f, r) in
      divides_to x z (Gcd.coprime_cancel E.ring (combination_from x y Q.one k) (divides_from x (Q.mul y z) d))

  pub coprime_product : (a b f : List A) → IsPolynomial c a → IsPolynomial c b → IsPolynomial c f → AreCoprime c a b → AreCoprime c a f
      → AreCoprime c a (poly_product c.ops b f)
  coprime_product a b f p q r k l =
      let x : Polynomial c = (a, p) in
      let y : Polynomial c = (b, q) in
      let z : Polynomial c = (f, r) in
      combination_to x (Q.mul y z) Q.one (Gcd.coprime_product E.ring (combination_from x y Q.one k) (combination_from x z Q.one l))

  -- Chinese remainders: what is 0 modulo a and 1 modulo b
  pub chinese : (a b : List A) → IsPolynomial c a → IsPolynomial c b → AreCoprime c a b
      → (v : List A) × IsPolynomial c v × Divides c a v × Divides c b (poly_difference c.ops v (trim c.ops (c.ops.one ∷ [])))
  chinese a b p q k =
      let x : Polynomial c = (a, p) in
      let y : Polynomial c = (b, q) in
      let v : (v : Polynomial c) × Divisibility.Divides Q x v × Divisibility.Divides Q y (Q.add v (Q.neg Q.one))
      = Gcd.chinese E.ring (combination_from x y Q.one k) in
      (v.0.0, v.0.1, divides_to x v.0 v.1, divides_to y (Q.add v.0 (Q.neg Q.one)) v.2)

  -- ---- irreducible polynomials
  pub coprime_or_divides : (f a : List A) → IsIrreducible c f → IsPolynomial c a → AreCoprime c f a ⊎ Divides c f a
  coprime_or_divides f a i p =
      let x : Polynomial c = (f, i.polynomial) in
      let y : Polynomial c = (a, p) in
      ⊎_elim (λ h. inl (combination_to x y Q.one h)) (λ h. inr (divides_to x y h)) (Irreducible.coprime_or_divides E (irreducible_from x i) y)

  -- Euclid's lemma
  pub euclid : (f a b : List A) → IsIrreducible c f → IsPolynomial c a → IsPolynomial c b → Divides c f (poly_product c.ops a b)
      → Divides c f a ⊎ Divides c f b
  euclid f a b i p q d =
      let x : Polynomial c = (f, i.polynomial) in
      let y : Polynomial c = (a, p) in
      let z : Polynomial c = (b, q) in
      ⊎_elim (λ h. inl (divides_to x y h)) (λ h. inr (divides_to x z h))
      (Irreducible.euclid E (irreducible_from x i) (divides_from x (Q.mul y z) d))

  -- of monic irreducible polynomials one that divides another is it
  pub irreducible_same : (f g : List A) → IsMonic c f → IsIrreducible c f → IsMonic c g → IsIrreducible c g → Divides c f g → f ≡ g
  irreducible_same f g m i n j d =
      let x : Polynomial c = (f, i.polynomial) in
      let y : Polynomial c = (g, j.polynomial) in
      ap list_of (Irreducible.irreducible_same E m (irreducible_from x i) n (irreducible_from y j) (divides_from x y d))

  -- ---- factorizations
  abbrev pub MonicIrreducible : Polynomial c → Type 0
  MonicIrreducible = Factorization.MonicIrreducible (polynomial_ops P F.ring) (λ f. length f.0) (λ f. IsMonic c f.0)

  pub product_of-map : (fs : List (Polynomial c)) → (Factorization.product (polynomial_ops P F.ring) fs).0 ≡ product_of c.ops (map (λ f. f.0) fs)
  product_of-map [] = refl
  product_of-map (f ∷ fs) = ap (poly_product c.ops f.0) (product_of-map fs)

  -- a factorization in the theory
  pub record Members (fs : List (List A)) : Type 0 where
    pub members : List (Polynomial c)
    pub same : map (λ f. f.0) members ≡ fs
    pub irreducible : All (Factorization.MonicIrreducible (polynomial_ops P F.ring) (λ f. length f.0) (λ f. IsMonic c f.0)) members

  members_of : (fs : List (List A)) → All (IsMonic c) fs → All (IsIrreducible c) fs → Members fs
  members_of [] m i = record { members = []; same = refl; irreducible = All-nil MonicIrreducible }
  members_of (f ∷ fs) m i =
      let j : IsIrreducible c f = All-head (IsIrreducible c) f fs i in
      let x : Polynomial c = (f, j.polynomial) in
      let r : Members fs = members_of fs (All-tail (IsMonic c) f fs m) (All-tail (IsIrreducible c) f fs i) in
      record {
        members = x ∷ r.members;
        same = ap (λ t. f ∷ t) r.same;
        irreducible = All-cons MonicIrreducible x r.members
            (record { monic = All-head (IsMonic c) f fs m; irreducible = irreducible_from x j }) r.irreducible;
      }

  pub members_of_factorization : {f : List A} {fs : List (List A)} → IsFactorization c f fs → Members fs
  members_of_factorization {f} {fs} k = members_of fs k.monic k.irreducible

  pub product_of_members : {f : List A} {fs : List (List A)} → IsFactorization c f fs → (m : Members fs)
      → (Factorization.product (polynomial_ops P F.ring) m.members).0 ≡ f
  product_of_members {f} {fs} k m = product_of-map m.members ∙ ap (product_of c.ops) m.same ∙ k.product_is

  -- two factorizations differ by their order alone
  pub factorization_unique : {f : List A} {fs gs : List (List A)} → IsFactorization c f fs → IsFactorization c f gs → IsPermutation fs gs
  factorization_unique {f} {fs} {gs} k l = subst (λ t. IsPermutation t gs) m.same (subst (λ t. IsPermutation (map list_of m.members) t) n.same
      (IsPermutation-map list_of m.members n.members (Factorization.factorization_unique E m.members n.members m.irreducible n.irreducible
      (same (Factorization.product Q m.members) (Factorization.product Q n.members) (product_of_members k m ∙ sym (product_of_members l n))))))
    where
      m : Members fs
      m = members_of_factorization k

      n : Members gs
      n = members_of_factorization l
