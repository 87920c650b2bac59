-- Proper factors and irreducible elements.
--     ProperFactor o size Monic f g     g is a monic divisor of f, larger than a unit and smaller than f
--     Irreducible o size Monic f        larger than a unit, with no proper factor
use Rattle.std.proofs.Common.{◌≡◌, ◌≢◌, ◌⊎◌, ⊎_elim, inl, inr, ℕ, ◌<◌, ◌≤◌, sym, arith, eq-or-lt_of_le}
use Rattle.alg_model.specs.Coefficients.{Ops}
use Rattle.alg_rings.proofs.Divisibility.{Divides, divides_trans}
use Rattle.alg_divisors.proofs.Euclidean.{EuclideanLaws, normal, monic_same, monic_not_zero, size_of_divisor, size_positive, divisor_not_zero, associate, not_zero_from_size}
use Rattle.alg_divisors.proofs.Gcd.{Gcd, Coprime, gcd_exists, coprime_from_gcd, coprime_cancel}

pub record ProperFactor {R : Type 0} (o : Ops R) (size : R → ℕ) (Monic : R → Type 0) (f g : R) : Type 0 where
  pub monic : Monic g
  pub not_constant : 1 < size g
  pub smaller : size g < size f
  pub divides : Divides o g f

pub record Irreducible {R : Type 0} (o : Ops R) (size : R → ℕ) (Monic : R → Type 0) (f : R) : Type 0 where
  pub not_constant : 1 < size f
  pub no_factor : (g : R) → ProperFactor o size Monic f g → ⊥

-- f has a proper factor or none
abbrev pub FactorOrNone : {R : Type 0} → Ops R → (R → ℕ) → (R → Type 0) → R → Type 0
FactorOrNone {R} o size Monic f =
    ((g : R) × ProperFactor o size Monic f g) ⊎ ((g : R) → ProperFactor o size Monic f g → ⊥)

module _ {R : Type 0} {o : Ops R} {size : R → ℕ} {Monic : R → Type 0} (E : EuclideanLaws o size Monic) where
  open o use {zero as O, one as I, add as ◌⊕◌, mul as ◌⊗◌, neg}

  infixl 60 ◌⊕◌
  infixl 70 ◌⊗◌
  pub irreducible_not_zero : {p : R} → Irreducible o size Monic p → p ≢ O
  irreducible_not_zero {p} h = not_zero_from_size E p (let l : 1 < size p = h.not_constant in omega arith)

  -- a divisor of an irreducible element is a unit, or as large
  pub divisor_of_irreducible : {p d : R} → Irreducible o size Monic p → Divides o d p → (size d ≡ 1) ⊎ Divides o p d
  divisor_of_irreducible {p} {d} i h = by_size (eq-or-lt_of_le (size_of_divisor E h n))
    where
      n : p ≢ O
      n = irreducible_not_zero i

      m : d ≢ O
      m = divisor_not_zero E h n

      s : (m : R) × Monic m × Divides o d m × Divides o m d
      s = normal E d m

      le : size s.0 ≤ size d
      le = size_of_divisor E s.3 m

      ge : size d ≤ size s.0
      ge = size_of_divisor E s.2 (monic_not_zero E s.0 s.1)

      positive : 0 < size d
      positive = size_positive E d m

      by_unit : (1 ≡ size d) ⊎ (1 < size d) → size d < size p → (size d ≡ 1) ⊎ Divides o p d
      by_unit (inl e) l = inl (sym e)
      by_unit (inr k) l = absurd (i.no_factor s.0 (record {
        monic = s.1;
        not_constant = omega (arith, le, ge);
        smaller = omega (arith, le, ge);
        divides = divides_trans E.ring s.3 h;
      }))

      by_size : (size d ≡ size p) ⊎ (size d < size p) → (size d ≡ 1) ⊎ Divides o p d
      by_size (inl e) = inr (associate E h n (omega arith))
      by_size (inr l) = by_unit (eq-or-lt_of_le positive) l

  pub coprime_or_divides : {p : R} → Irreducible o size Monic p → (a : R) → Coprime o p a ⊎ Divides o p a
  coprime_or_divides {p} i a = ⊎_elim
      (λ e. inl (coprime_from_gcd E g.1 e))
      (λ h. inr (divides_trans E.ring h g.1.divides_second))
      (divisor_of_irreducible i g.1.divides_first)
    where
      g : (g : R) × Gcd o p a g
      g = gcd_exists E p a

  -- Euclid's lemma
  pub euclid : {p a b : R} → Irreducible o size Monic p → Divides o p (a ⊗ b) → Divides o p a ⊎ Divides o p b
  euclid {p} {a} {b} i h = ⊎_elim
      (λ k. inr (coprime_cancel E.ring k h))
      (λ k. inl k)
      (coprime_or_divides i a)

  pub factor_of_factor : {f g h : R} → ProperFactor o size Monic f g → ProperFactor o size Monic g h → ProperFactor o size Monic f h
  factor_of_factor {f} {g} {h} p k = record {
    monic = k.monic;
    not_constant = k.not_constant;
    smaller = omega arith;
    divides = divides_trans E.ring k.divides p.divides;
  }

  -- a proper factor of least size is irreducible
  pub least_factor_irreducible : {f g : R} → ProperFactor o size Monic f g
      → ((h : R) → ProperFactor o size Monic f h → size h < size g → ⊥) → Irreducible o size Monic g
  least_factor_irreducible {f} {g} p least = record {
    not_constant = p.not_constant;
    no_factor = λ h k. least h (factor_of_factor p k) k.smaller;
  }

  -- what is associated with an irreducible element is irreducible
  pub irreducible_associate : {f g : R} → Divides o f g → Divides o g f → Irreducible o size Monic f → Irreducible o size Monic g
  irreducible_associate {f} {g} h k i = record {
    not_constant = let l : 1 < size f = i.not_constant in omega (arith, le, ge);
    no_factor = λ d p. i.no_factor d (record {
      monic = p.monic;
      not_constant = p.not_constant;
      smaller = let l : size d < size g = p.smaller in omega (arith, le, ge);
      divides = divides_trans E.ring p.divides k;
    });
  }
    where
      n : f ≢ O
      n = irreducible_not_zero i

      le : size g ≤ size f
      le = size_of_divisor E k n

      ge : size f ≤ size g
      ge = size_of_divisor E h (divisor_not_zero E k n)

  -- of monic irreducible elements one that divides another is it
  pub irreducible_same : {p q : R} → Monic p → Irreducible o size Monic p → Monic q → Irreducible o size Monic q → Divides o p q → p ≡ q
  irreducible_same {p} {q} mp ip mq iq h = ⊎_elim
      (λ e. absurd (let l : 1 < size p = ip.not_constant in omega arith))
      (λ k. monic_same E h mp mq (size_of_divisor E k (monic_not_zero E p mp)))
      (divisor_of_irreducible iq h)
