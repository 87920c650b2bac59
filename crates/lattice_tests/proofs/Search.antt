-- The search for a factor, by the numbers of the polynomials.
use Rattle.std.proofs.Common.{◌≡◌, ℕ, ◌+◌, ◌^◌, ◌<◌, ◌≤◌, List, length, refl, arith, sym, ◌∙◌, subst, inl, inr}
use Rattle.std.specs.declared.cmp.Ordering.{Ordering}
use Rattle.std.specs.declared.cmp.Ordering.TheVariants.{Less, Equal, Greater}
use Rattle.std.specs.Ordering.{nat_cmp, MatchOrdering}
use Rattle.std.proofs.lemmas.Bool.{cases_eq}
use Rattle.alg_model.specs.Coefficients.{residues}
use Rattle.alg_model.specs.Values.{degree}
use Rattle.alg_model.specs.Factors.{order_by, IsPolynomial, IsMonic, Divides, IsProperFactor, IsIrreducible, IsLeastFactor}
use Rattle.lattice_tests.specs.Numbering.{number_of}
use Rattle.lattice_tests.proofs.NumbersOfPolynomials.{number_of-order, number_of-lt, number_of-ge, below_power}
use Rattle.std.proofs.Math.Nat.{pow-zero, pow-suc}
use Rattle.std.proofs.lemmas.Bool.{cases_lt}

-- f has no proper factor with a number below k
abbrev pub FactorFree : ℕ → List ℕ → ℕ → Type 0
FactorFree p f k = (h : List ℕ) → IsProperFactor (residues p) f h → number_of p h < k → ⊥

-- no constant has a number from p on
pub free_at_start : (p : ℕ) (f : List ℕ) → 0 < p → FactorFree p f p
free_at_start p f positive h factor below =
    let least : p ^ 1 ≤ number_of p h = number_of-ge p 1 h positive factor.polynomial.1 factor.not_constant in
    let one : p ^ 1 ≡ p = grind (arith, pow-zero, pow-suc) in omega arith

same_number : (p : ℕ) (g h : List ℕ) → 0 < p → IsPolynomial (residues p) g → IsPolynomial (residues p) h
    → number_of p g ≡ number_of p h → g ≡ h
same_number p g h positive a b e = cases (order_by nat_cmp g h) (number_of-order p g h positive a b (order_by nat_cmp g h) refl)
  where
    cases : (r : Ordering) → MatchOrdering r (number_of p g < number_of p h) (g ≡ h) (number_of p h < number_of p g) → g ≡ h
    cases Less l = absurd (omega arith)
    cases Equal q = q
    cases Greater l = absurd (omega arith)

-- the polynomial of number k isn't a factor, so none up to k is
pub free_step : (p : ℕ) (f g : List ℕ) (k : ℕ) → 0 < p → IsPolynomial (residues p) g → number_of p g ≡ k
    → (IsMonic (residues p) g → Divides (residues p) g f → ⊥) → FactorFree p f k → FactorFree p f (k + 1)
free_step p f g k positive poly e none free h factor below =
    elim (cases_eq (number_of p h) k) [
      | inl q ↦ let same : h ≡ g = same_number p h g positive factor.polynomial poly (q ∙ sym e) in
          let Monic : List ℕ → Type 0 = IsMonic (residues p) in
          let DividesF : List ℕ → Type 0 = λ x. Divides (residues p) x f in
          none (subst Monic same factor.monic) (subst DividesF same factor.divides)
      | inr q ↦ free h factor (let r : number_of p h ≡ k → ⊥ = q in omega arith)
    ]

-- a factor below which there is none is the least
pub least_of_free : (p : ℕ) (f g : List ℕ) (k : ℕ) → 0 < p → number_of p g ≡ k → FactorFree p f k
    → IsProperFactor (residues p) f g → IsLeastFactor (residues p) nat_cmp f g
least_of_free p f g k positive e free factor = record {
  factor = factor;
  least = λ h other before. free h other
      (let l : MatchOrdering Less (number_of p h < number_of p g) (h ≡ g) (number_of p g < number_of p h) =
      number_of-order p h g positive other.polynomial factor.polynomial Less (sym before) in omega (arith, l));
}

-- all polynomials below the degree of f were tried
pub irreducible_at_end : (p : ℕ) (f : List ℕ) → 0 < p → IsPolynomial (residues p) f → 1 < length f
    → FactorFree p f (p ^ degree f) → IsIrreducible (residues p) f
irreducible_at_end p f positive poly big free = record {
  polynomial = poly;
  not_constant = big;
  no_factor = λ h factor. free h factor (below_power p (number_of p h) (length h) (degree f) positive
      (number_of-lt p h factor.polynomial.0) (let s : length h < length f = factor.smaller in omega arith));
}

-- A polynomial whose number is from p on and below p ^ degree f isn't constant, and has a smaller degree than f.
pub factor_from_number : (p : ℕ) (f g : List ℕ) (k : ℕ) → 0 < p → 1 < length f → IsPolynomial (residues p) g → number_of p g ≡ k
    → p ≤ k → k < p ^ degree f → IsMonic (residues p) g → Divides (residues p) g f → IsProperFactor (residues p) f g
factor_from_number p f g k positive big poly e low high monic divides = record {
  polynomial = poly;
  monic = monic;
  not_constant = elim (cases_lt 1 (length g)) [
    | inl h ↦ h
    | inr h ↦ absurd (let b : number_of p g < p ^ 1 = below_power p (number_of p g) (length g) 1 positive (number_of-lt p g poly.0) h in
        let one : p ^ 1 ≡ p = grind (arith, pow-zero, pow-suc) in omega arith)
  ];
  smaller = elim (cases_lt (length g) (length f)) [
    | inl h ↦ h
    | inr h ↦ absurd (let b : p ^ degree f ≤ number_of p g = number_of-ge p (degree f) g positive poly.1 (omega arith) in omega arith)
  ];
  divides = divides;
}
