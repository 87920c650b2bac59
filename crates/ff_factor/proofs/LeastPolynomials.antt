-- The search for the first irreducible polynomial of a degree, through the monic polynomials in their order.
--     candidate lower          the monic polynomial with these lower coefficients
--     NoneBefore p d g         no monic irreducible polynomial of degree d comes before g
use Rattle.std.proofs.Common.{◌≡◌, ◌⊎◌, ⊎_elim, ℕ, zero, suc, ◌+◌, ◌-◌, ◌*◌, ◌^◌, ◌<◌, ◌≤◌, List, [], ◌∷◌, ◌++◌, length, replicate, All, refl, ap, sym, ◌∙◌, subst, arith, pow-suc}
use Rattle.std.proofs.lemmas.Bool.{cases_lt, cases_eq}
use Rattle.std.proofs.lemmas.List.{length-append, length-replicate}
use Rattle.std.proofs.lemmas.List.Elements.{All-nil, All-cons, All-append, All-head, All-tail}
use Rattle.std.proofs.Math.Nat.{mul-le-mul_left, pow-zero}
use Rattle.alg_model.specs.Coefficients.{mod_ops, residues, IsPrime, IsCharacteristic}
use Rattle.alg_model.specs.Polynomials.{leading, trim}
use Rattle.alg_model.specs.Factors.{IsMonic, IsIrreducible}
use Rattle.alg_model.specs.Values.{degree}
use Rattle.alg_model.specs.Roots.{IsBefore, IsLeastIrreducible}
use Rattle.alg_rings.proofs.Divisors.{Polynomial}
use Rattle.alg_rings.proofs.Residues.{zero_test}
use Rattle.alg_rings.proofs.Trims.{trimmed_from_leading}
use Rattle.alg_rings.proofs.Primes.{characteristic_is_prime}
use Rattle.alg_rings.proofs.ResidueFields.{prime_residues_field, residues_propositional}
use Rattle.alg_rings.proofs.PolynomialOrder.{order_by_same, nat_cmp_same}
use Rattle.alg_finite.proofs.FiniteValues.{residues_finite}
use Rattle.alg_finite.proofs.IrreducibleExistence.{irreducible_exists}
use Rattle.ff_factor.specs.PrivateCounting.{number}
use Rattle.ff_factor.proofs.Counting.{digit_below, number_at_end, compared, before, same_number}

abbrev pub candidate : List ℕ → List ℕ
candidate lower = lower ++ 1 ∷ []

abbrev pub NoneBefore : ℕ → ℕ → List ℕ → Type 0
NoneBefore p d g = (h : List ℕ) → IsMonic (residues p) h → IsIrreducible (residues p) h → degree h ≡ d
    → IsBefore h g → ⊥

leading_last : (p : ℕ) (xs : List ℕ) (y : ℕ) → leading (mod_ops p) (xs ++ y ∷ []) ≡ y
leading_last p [] y = refl
leading_last p (x ∷ []) y = refl
leading_last p (x ∷ z ∷ xs) y = leading_last p (z ∷ xs) y

pub candidate_monic : (p : ℕ) (lower : List ℕ) → IsMonic (residues p) (candidate lower)
candidate_monic p lower = leading_last p lower 1

pub candidate_residues : (p : ℕ) (lower : List ℕ) → 1 < p → All (λ x. x < p) lower
    → All (λ x. x < p) (candidate lower)
candidate_residues p lower h v =
    All-append (λ x. x < p) lower (1 ∷ []) v (All-cons (λ x. x < p) 1 [] h (All-nil (λ x. x < p)))

pub candidate_length : (lower : List ℕ) → length (candidate lower) ≡ suc (length lower)
candidate_length lower = omega (arith, length-append lower (1 ∷ []))

pub candidate_number : (p : ℕ) (lower : List ℕ)
    → number p (candidate lower) ≡ number p lower + p ^ length lower
candidate_number p lower = let h = number_at_end p lower 1 in omega (arith, h)

-- the numbers of the monic polynomials of degree d
monic_below : (p d : ℕ) (g : List ℕ) → IsMonic (residues p) g → All (λ x. x < p) g → length g ≡ suc d
    → number p g < 2 * p ^ d
monic_below p d [] m v e = absurd (omega arith)
monic_below p d (x ∷ []) m v e =
    let z : d ≡ 0 = omega arith in
    let o : x ≡ 1 = m in
    let w : p ^ 0 ≡ 1 = pow-zero p in
    subst (λ k. x + p * 0 < 2 * p ^ k) (sym z) (omega (arith, w, o))
monic_below p zero (x ∷ y ∷ ys) m v e = absurd (omega arith)
monic_below p (suc d) (x ∷ y ∷ ys) m v e =
    let h = digit_below p (number p (y ∷ ys)) (2 * p ^ d) x 0 (All-head (λ x. x < p) x (y ∷ ys) v)
    (monic_below p d (y ∷ ys) m (All-tail (λ x. x < p) x (y ∷ ys) v) (omega arith)) in
    let s : p ^ suc d ≡ p * p ^ d = grind (arith, pow-suc) in
    let t : p * (2 * p ^ d) ≡ 2 * (p * p ^ d) = grind arith in
    omega (arith, h, s, t)

monic_above : (p d : ℕ) (g : List ℕ) → IsMonic (residues p) g → length g ≡ suc d → p ^ d ≤ number p g
monic_above p d [] m e = absurd (omega arith)
monic_above p d (x ∷ []) m e =
    let z : d ≡ 0 = omega arith in
    let o : x ≡ 1 = m in
    let w : p ^ 0 ≡ 1 = pow-zero p in
    subst (λ k. p ^ k ≤ x + p * 0) (sym z) (omega (arith, w, o))
monic_above p zero (x ∷ y ∷ ys) m e = absurd (omega arith)
monic_above p (suc d) (x ∷ y ∷ ys) m e =
    let h : p * p ^ d ≤ p * number p (y ∷ ys) = mul-le-mul_left p (monic_above p d (y ∷ ys) m (omega arith)) in
    let s : p ^ suc d ≡ p * p ^ d = grind (arith, pow-suc) in
    omega (arith, h, s)

zeros_number : (p n : ℕ) → number p (replicate n 0) ≡ 0
zeros_number p zero = refl
zeros_number p (suc n) = let h = ap (λ t. p * t) (zeros_number p n) in omega (arith, h)

module _ (p d : ℕ) (C : IsCharacteristic p) (l : 0 < d) where
  prime : IsPrime p
  prime = characteristic_is_prime p C

  length_of : (h : List ℕ) → IsIrreducible (residues p) h → degree h ≡ d → length h ≡ suc d
  length_of h i e = let n : 1 < length h = i.not_constant in omega arith

  -- none comes before x^d
  pub none_before_first : NoneBefore p d (candidate (replicate d 0))
  none_before_first h m i e b =
      let n : length (replicate {A = ℕ} d 0) ≡ d = length-replicate {A = ℕ} d 0 in
      let zeros : All (λ x. x < p) (replicate d 0) = zeros_below d in
      let c = candidate_number p (replicate d 0) in
      let k : p ^ length (replicate {A = ℕ} d 0) ≡ p ^ d = ap (λ t. p ^ t) n in
      let z = zeros_number p d in
      let s = compared p h (candidate (replicate d 0))
      (length_of h i e ∙ sym (candidate_length (replicate d 0) ∙ ap suc n)) i.polynomial.0
      (candidate_residues p (replicate d 0) prime.above_one zeros) b in
      let a = monic_above p d h m (length_of h i e) in
      omega (arith, s, a, c, k, z)
    where
      zeros_below : (n : ℕ) → All (λ x. x < p) (replicate n 0)
      zeros_below zero = All-nil (λ x. x < p)
      zeros_below (suc n) = All-cons (λ x. x < p) 0 (replicate n 0) (omega (arith, prime.above_one)) (zeros_below n)

  module _ (lower : List ℕ) (n : length lower ≡ d) (v : All (λ x. x < p) lower)
      (reducible : IsIrreducible (residues p) (candidate lower) → ⊥) (none : NoneBefore p d (candidate lower)) where
    own_length : length (candidate lower) ≡ suc d
    own_length = candidate_length lower ∙ ap suc n

    own_residues : All (λ x. x < p) (candidate lower)
    own_residues = candidate_residues p lower prime.above_one v

    -- an irreducible polynomial comes after the candidate
    comes_after : (h : List ℕ) → IsMonic (residues p) h → IsIrreducible (residues p) h → degree h ≡ d
        → number p (candidate lower) < number p h
    comes_after h m i e = ⊎_elim
        (λ below. absurd (none h m i e (before p h (candidate lower) same i.polynomial.0 own_residues below)))
        (λ above. ⊎_elim
        (λ equal. absurd (reducible (subst (IsIrreducible (residues p))
        (order_by_same nat_cmp_same h (candidate lower)
        (same_number p h (candidate lower) same i.polynomial.0 own_residues equal)) i)))
        (λ different. omega arith)
        (cases_eq (number p h) (number p (candidate lower))))
        (cases_lt (number p h) (number p (candidate lower)))
      where
        same : length h ≡ length (candidate lower)
        same = length_of h i e ∙ sym own_length

    -- so it isn't the last
    pub not_last : number p lower + 1 < p ^ length lower
    not_last =
        let f : (f : Polynomial (residues p)) × IsMonic (residues p) f.0
        × IsIrreducible (residues p) f.0 × (degree f.0 ≡ d) =
        irreducible_exists (residues_propositional p) (prime_residues_field p prime) (residues_finite p prime) d l in
        let a = comes_after f.0.0 f.1 f.2 f.3 in
        let b = monic_below p d f.0.0 f.1 f.2.polynomial.0 (length_of f.0.0 f.2 f.3) in
        let c = candidate_number p lower in
        let e : p ^ length lower ≡ p ^ d = ap (λ k. p ^ k) n in
        omega (arith, a, b, c, e)

    -- and none comes before the next
    pub none_before_next : (next : List ℕ) → length next ≡ d → All (λ x. x < p) next
        → number p next ≡ number p lower + 1 → NoneBefore p d (candidate next)
    none_before_next next m w is h o i e b =
        let s = compared p h (candidate next)
        (length_of h i e ∙ sym (candidate_length next ∙ ap suc m)) i.polynomial.0
        (candidate_residues p next prime.above_one w) b in
        let a = comes_after h o i e in
        let x : number p (candidate next) ≡ number p next + p ^ d =
        candidate_number p next ∙ ap (λ k. number p next + p ^ k) m in
        let y : number p (candidate lower) ≡ number p lower + p ^ d =
        candidate_number p lower ∙ ap (λ k. number p lower + p ^ k) n in
        omega (arith, s, a, x, y, is)

  -- the first that is irreducible is the least
  pub least_found : (lower : List ℕ) → length lower ≡ d → IsIrreducible (residues p) (candidate lower)
      → NoneBefore p d (candidate lower) → IsLeastIrreducible p d (candidate lower)
  least_found lower n i none = record {
    monic = candidate_monic p lower;
    irreducible = i;
    of_degree = omega (arith, candidate_length lower, n);
    least = none;
  }

-- the candidate has no zero at its end
pub candidate_trimmed : (p : ℕ) (lower : List ℕ) → 1 < p → trim (mod_ops p) (candidate lower) ≡ candidate lower
candidate_trimmed p lower above = trimmed_from_leading (mod_ops p) (zero_test p) (candidate lower)
    (λ z. let e : 1 ≡ 0 = sym (candidate_monic p lower) ∙ z in omega arith)
