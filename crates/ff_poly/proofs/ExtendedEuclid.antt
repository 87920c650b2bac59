-- What each remainder of the extended algorithm of Euclid keeps.
use Rattle.std.proofs.Common.{◌≡◌, ◌≢◌, ℕ, ◌<◌, ◌≤◌, max, List, [], ◌∷◌, length, refl, ap, ap₂, sym, ◌∙◌, subst, arith}
use Rattle.alg_model.specs.Coefficients.{mod_ops, residues, IsCharacteristic}
use Rattle.alg_model.specs.Polynomials.{poly_sum, poly_difference, poly_product}
use Rattle.alg_model.specs.Factors.{IsPolynomial, IsDivision, IsGreatestCommonDivisor}
use Rattle.alg_model.specs.Fields.{IsField}
use Rattle.alg_rings.specs.Laws.{IsPropositional}
use Rattle.alg_rings.proofs.Trims.{length_poly_difference}
use Rattle.alg_rings.proofs.ResidueFields.{residues_propositional, residues_field}
use Rattle.alg_rings.proofs.CarrierPolynomials.{nil_polynomial, one_polynomial, poly_product_polynomial, poly_difference_polynomial}
use Rattle.ff_poly.specs.PrivateDivisors.{IsNormalizer}
use Rattle.ff_poly.specs.declared.divisors.Bezout.{Bezout}
use Rattle.ff_poly.proofs.Euclid.{Combines, combines_first, combines_second, combines_step, combines_multiple, Short, short_start, short_step, Times, division_sizes, length_product_le, length_nil_product, length_product_nil, multiplier_polynomial, multiple_gcd}

-- three polynomials modulo p, the first of them u * a + w * b
pub record Line (p : ℕ) (a b : List ℕ) (l : Bezout) : Type 0 where
  pub g_prime : l.g.prime ≡ p
  pub u_prime : l.u.prime ≡ p
  pub w_prime : l.w.prime ≡ p
  pub g : IsPolynomial (residues p) l.g.coefficients
  pub u : IsPolynomial (residues p) l.u.coefficients
  pub w : IsPolynomial (residues p) l.w.coefficients
  pub combines : Combines (mod_ops p) a b l.u.coefficients l.w.coefficients l.g.coefficients

abbrev pub AreShort : List ℕ → List ℕ → Bezout → Bezout → Type 0
AreShort a b l m = Short (length a) (length b) (length l.u.coefficients) (length l.w.coefficients) (length l.g.coefficients)
    (length m.u.coefficients) (length m.w.coefficients) (length m.g.coefficients)

abbrev pub HasPrime : ℕ → Bezout → Type 0
HasPrime p l = (l.g.prime ≡ p) × (l.u.prime ≡ p) × (l.w.prime ≡ p)

-- n is made of l less q times m, where q is the quotient
abbrev pub IsNext : ℕ → Bezout → Bezout → Bezout → Type 0
IsNext p l m n = (q : List ℕ) × IsDivision (residues p) l.g.coefficients m.g.coefficients q n.g.coefficients
    × (n.u.coefficients ≡ poly_difference (mod_ops p) l.u.coefficients (poly_product (mod_ops p) q m.u.coefficients))
    × (n.w.coefficients ≡ poly_difference (mod_ops p) l.w.coefficients (poly_product (mod_ops p) q m.w.coefficients))

-- n is l times a constant that makes it monic
abbrev pub IsMonicMultiple : ℕ → Bezout → Bezout → Type 0
IsMonicMultiple p l n = (k : List ℕ) × IsNormalizer p l.g.coefficients k × (length k ≤ 1)
    × (n.g.coefficients ≡ poly_product (mod_ops p) k l.g.coefficients)
    × (n.u.coefficients ≡ poly_product (mod_ops p) k l.u.coefficients)
    × (n.w.coefficients ≡ poly_product (mod_ops p) k l.w.coefficients)

pub start_short : (a b : List ℕ) (l m : Bezout) → l.u.coefficients ≡ 1 ∷ [] → l.w.coefficients ≡ [] → l.g.coefficients ≡ a
    → m.u.coefficients ≡ [] → m.w.coefficients ≡ 1 ∷ [] → m.g.coefficients ≡ b → AreShort a b l m
start_short a b l m lu lw lg mu mw mg =
    short_start (length a) (length b) (length l.u.coefficients) (length l.w.coefficients) (length l.g.coefficients)
    (length m.u.coefficients) (length m.w.coefficients) (length m.g.coefficients)
    (ap length lu) (ap length lw) (ap length lg) (ap length mu) (ap length mw) (ap length mg)

module _ (p : ℕ) (a b : List ℕ) (prime : IsCharacteristic p) (va : IsPolynomial (residues p) a) (vb : IsPolynomial (residues p) b) where
  P : IsPropositional (residues p)
  P = residues_propositional p

  F : IsField (residues p)
  F = residues_field p prime

  line_of : (u w g : List ℕ) (l : Bezout) → HasPrime p l → l.u.coefficients ≡ u → l.w.coefficients ≡ w → l.g.coefficients ≡ g
      → IsPolynomial (residues p) u → IsPolynomial (residues p) w → IsPolynomial (residues p) g → Combines (mod_ops p) a b u w g → Line p a b l
  line_of u w g l primes eu ew eg vu vw vg k = record {
    g_prime = primes.0;
    u_prime = primes.1;
    w_prime = primes.2;
    g = subst (IsPolynomial (residues p)) (sym eg) vg;
    u = subst (IsPolynomial (residues p)) (sym eu) vu;
    w = subst (IsPolynomial (residues p)) (sym ew) vw;
    combines = record {
      identity = ap₂ (λ s t. poly_sum (mod_ops p) (poly_product (mod_ops p) s a) (poly_product (mod_ops p) t b)) eu ew ∙ k.identity ∙ sym eg;
    };
  }

  pub first_line : (l : Bezout) → HasPrime p l → l.u.coefficients ≡ 1 ∷ [] → l.w.coefficients ≡ [] → l.g.coefficients ≡ a → Line p a b l
  first_line l primes eu ew eg =
      line_of (1 ∷ []) [] a l primes eu ew eg (one_polynomial P F.ring) (nil_polynomial P F.ring) va (combines_first P F.ring a b va)

  pub second_line : (l : Bezout) → HasPrime p l → l.u.coefficients ≡ [] → l.w.coefficients ≡ 1 ∷ [] → l.g.coefficients ≡ b → Line p a b l
  second_line l primes eu ew eg =
      line_of [] (1 ∷ []) b l primes eu ew eg (nil_polynomial P F.ring) (one_polynomial P F.ring) vb (combines_second P F.ring a b vb)

  -- the next remainder
  module _ (l m n : Bezout) (first : Line p a b l) (second : Line p a b m) (primes : HasPrime p n) (made : IsNext p l m n) where
    abbrev q : List ℕ
    q = made.0

    abbrev division : IsDivision (residues p) l.g.coefficients m.g.coefficients made.0 n.g.coefficients
    division = made.1

    less : (f g : List ℕ) → IsPolynomial (residues p) f → IsPolynomial (residues p) g
        → IsPolynomial (residues p) (poly_difference (mod_ops p) f (poly_product (mod_ops p) q g))
    less f g vf vg = poly_difference_polynomial P F.ring f (poly_product (mod_ops p) q g) vf (poly_product_polynomial P F.ring q g division.quotient vg)

    pub next_line : Line p a b n
    next_line =
        line_of (poly_difference (mod_ops p) l.u.coefficients (poly_product (mod_ops p) q m.u.coefficients))
        (poly_difference (mod_ops p) l.w.coefficients (poly_product (mod_ops p) q m.w.coefficients)) n.g.coefficients n primes made.2 made.3 refl
        (less l.u.coefficients m.u.coefficients first.u second.u) (less l.w.coefficients m.w.coefficients first.w second.w) division.remainder
        (combines_step P F.ring a b l.u.coefficients l.w.coefficients l.g.coefficients m.u.coefficients m.w.coefficients m.g.coefficients q n.g.coefficients
        va vb first.u first.w second.u second.w first.g second.g first.combines second.combines division)

    multiple : (g : List ℕ) → IsPolynomial (residues p) g → Times (length q) (length g) (length (poly_product (mod_ops p) q g))
    multiple g vg = record {
      bound = length_product_le P F q g division.quotient vg;
      nil_first = λ e. length_nil_product P F q g e;
      nil_second = λ e. length_product_nil P F q g e;
    }

    longest : (f g h : List ℕ) → h ≡ poly_difference (mod_ops p) f g → length h ≤ max (length f) (length g)
    longest f g h e = omega (arith, ap length e, length_poly_difference (mod_ops p) f g)

    pub next_short : 0 < length m.g.coefficients → AreShort a b l m → AreShort a b m n
    next_short above k =
        let sizes = division_sizes P F l.g.coefficients m.g.coefficients q n.g.coefficients first.g second.g division in
        short_step (length a) (length b) (length l.u.coefficients) (length l.w.coefficients) (length l.g.coefficients)
        (length m.u.coefficients) (length m.w.coefficients) (length m.g.coefficients) (length q) (length n.g.coefficients)
        (length (poly_product (mod_ops p) q m.u.coefficients)) (length (poly_product (mod_ops p) q m.w.coefficients))
        (length n.u.coefficients) (length n.w.coefficients)
        k above sizes.quotient division.smaller sizes.remainder (multiple m.u.coefficients second.u) (multiple m.w.coefficients second.w)
        (longest l.u.coefficients (poly_product (mod_ops p) q m.u.coefficients) n.u.coefficients made.2)
        (longest l.w.coefficients (poly_product (mod_ops p) q m.w.coefficients) n.w.coefficients made.3)

  -- the last remainder made monic
  module _ (l n : Bezout) (last : Line p a b l) (not_zero : l.g.coefficients ≢ []) (made : IsMonicMultiple p l n) where
    abbrev k : List ℕ
    k = made.0

    abbrev normalizer : IsNormalizer p l.g.coefficients made.0
    normalizer = made.1

    vk : IsPolynomial (residues p) k
    vk = multiplier_polynomial P F l.g.coefficients k normalizer.inverse last.g not_zero normalizer.residue normalizer.identity normalizer.constant

    pub monic_identity : poly_sum (mod_ops p) (poly_product (mod_ops p) n.u.coefficients a) (poly_product (mod_ops p) n.w.coefficients b) ≡ n.g.coefficients
    monic_identity =
        let m = combines_multiple P F.ring a b l.u.coefficients l.w.coefficients l.g.coefficients k va vb last.u last.w vk last.combines in
        ap₂ (λ s t. poly_sum (mod_ops p) (poly_product (mod_ops p) s a) (poly_product (mod_ops p) t b)) made.4 made.5 ∙ m.identity ∙ sym made.3

    pub monic_gcd : IsGreatestCommonDivisor (residues p) l.g.coefficients [] n.g.coefficients
    monic_gcd = subst (IsGreatestCommonDivisor (residues p) l.g.coefficients []) (sym made.3)
        (multiple_gcd P F l.g.coefficients k normalizer.inverse last.g not_zero normalizer.residue normalizer.identity normalizer.constant)

    pub monic_second_polynomial : IsPolynomial (residues p) n.w.coefficients
    monic_second_polynomial = subst (IsPolynomial (residues p)) (sym made.5) (poly_product_polynomial P F.ring k l.w.coefficients vk last.w)

    not_longer : (f h : List ℕ) → IsPolynomial (residues p) f → h ≡ poly_product (mod_ops p) k f → length h ≤ length f
    not_longer f h vf e = omega (arith, made.2, ap length e, length_product_le P F k f vk vf)

    pub monic_first : length n.u.coefficients ≤ length l.u.coefficients
    monic_first = not_longer l.u.coefficients n.u.coefficients last.u made.4

    pub monic_second : length n.w.coefficients ≤ length l.w.coefficients
    monic_second = not_longer l.w.coefficients n.w.coefficients last.w made.5

    pub monic_g : length n.g.coefficients ≤ length l.g.coefficients
    monic_g = not_longer l.g.coefficients n.g.coefficients last.g made.3
