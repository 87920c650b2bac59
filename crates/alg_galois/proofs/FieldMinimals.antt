-- Minimal polynomials of the values of the model's fields, over the prime field and over a
-- subfield: they exist, are the only
-- ones, are irreducible, and divide whatever vanishes there.
use Rattle.std.proofs.Common.{◌≡◌, ℕ, ◌^◌, List, map, refl, ap, sym, ◌∙◌, subst, arith}
use Rattle.alg_model.specs.Coefficients.{Carrier, residues}
use Rattle.alg_model.specs.Polynomials.{evaluate}
use Rattle.alg_model.specs.Factors.{IsPolynomial, IsMonic, IsIrreducible, Divides}
use Rattle.alg_model.specs.Fields.{IsRing, IsField}
use Rattle.alg_model.specs.Maps.{Field, IsFiniteField, field_values, constant, apply, IsEmbedding}
use Rattle.alg_model.specs.Roots.{IsMinimalPolynomial}
use Rattle.alg_rings.specs.Laws.{IsPropositional}
use Rattle.alg_rings.proofs.Elements.{Element, element_ops, underlying_injective}
use Rattle.alg_rings.proofs.Homomorphisms.{Homomorphism}
use Rattle.alg_rings.proofs.ResidueFields.{prime_residues_field, residues_propositional}
use Rattle.alg_rings.proofs.Divisors.{Polynomial}
use Rattle.alg_divisors.proofs.Euclidean
use Rattle.alg_divisors.proofs.Euclidean.{EuclideanLaws}
use Rattle.alg_divisors.proofs.EuclideanPolynomials.{over_field}
use Rattle.alg_divisors.proofs.PolynomialFactors.{divides_to}
use Rattle.alg_finite.proofs.FiniteField.{FiniteField}
use Rattle.alg_finite.proofs.FiniteValues.{residues_finite}
use Rattle.alg_finite.proofs.Orbits.{Orbit, orbit_of}
use Rattle.alg_finite.proofs.Evaluation.{evaluate_by}
use Rattle.alg_finite.proofs.MinimalPolynomials
use Rattle.alg_galois.proofs.Fields.{IsModulus, modulus_of, field_of, propositional, field_is, of_residue_homomorphism, finite, evaluate_value}
use Rattle.alg_galois.proofs.FieldEmbeddings.{function_homomorphism}
use Rattle.alg_galois.proofs.Embeddings.{of_two_fields}

-- what minimal polynomials over c of the element a of d keep, where `image` takes c into d
pub record MinimalFacts {X Y : Type 0} (c : Carrier X) (d : Carrier Y) (image : X → Y) (a : Y)
    : Type 0 where
  -- there is one
  pub exists : (g : List X) × IsMinimalPolynomial c d image a g
  -- and no other
  pub unique : (g f : List X) → IsMinimalPolynomial c d image a g
      → IsMinimalPolynomial c d image a f → g ≡ f
  -- it is irreducible
  pub irreducible : (g : List X) → IsMinimalPolynomial c d image a g → IsIrreducible c g
  -- it divides what vanishes at a
  pub divides : (g : List X) → IsMinimalPolynomial c d image a g → (f : List X) → IsPolynomial c f
      → evaluate d.ops (map image f) a ≡ d.ops.zero → Divides c g f
  -- a monic irreducible polynomial that vanishes at a is it
  pub is_irreducible_one : (g : List X) → IsMinimalPolynomial c d image a g → (f : List X)
      → IsMonic c f → IsIrreducible c f → evaluate d.ops (map image f) a ≡ d.ops.zero → g ≡ f

-- ---- over any carrier c with finitely many elements
module _ {X Y : Type 0} {c : Carrier X} {d : Carrier Y} (P : IsPropositional c) (Fc : IsField c)
    (Q : IsPropositional d) (R : IsRing d) {p m n : ℕ}
    (K : FiniteField (element_ops Fc.ring) p m) (F : FiniteField (element_ops R) p n)
    {h : Element c → Element d}
    (H : Homomorphism (element_ops Fc.ring) (element_ops R) h) (image : X → Y)
    (same : (x : Element c) → (h x).0 ≡ image x.0) (a : Element d) where
  open over_field P Fc use {laws as EU}

  abbrev O : Orbit (element_ops R) h (p ^ m) a
  O = orbit_of H K F a

  abbrev own : Polynomial c
  own = MinimalPolynomials.minimal P Fc K F H a (orbit_of H K F a)

  -- vanishing, as elements and as lists
  zero_to : (f : Polynomial c) → evaluate_by c h (element_ops R) f a ≡ (element_ops R).zero
      → evaluate d.ops (map image f.0) a.0 ≡ d.ops.zero
  zero_to f e = sym (evaluate_value c R h image same f a) ∙ ap (λ y. y.0) e

  zero_from : (f : Polynomial c) → evaluate d.ops (map image f.0) a.0 ≡ d.ops.zero
      → evaluate_by c h (element_ops R) f a ≡ (element_ops R).zero
  zero_from f e = underlying_injective Q _ _ (evaluate_value c R h image same f a ∙ e)

  -- **a minimal polynomial exists**
  minimal_exists : (g : List X) × IsMinimalPolynomial c d image a.0 g
  minimal_exists = (
    own.0,
    record {
      polynomial = own.1;
      monic = MinimalPolynomials.minimal_monic P Fc K F H a O;
      vanishes = zero_to own (MinimalPolynomials.minimal_vanishes P Fc K F H a O);
      least = λ f k l e. omega (
        arith,
        MinimalPolynomials.length_minimal P Fc K F H a O,
        MinimalPolynomials.vanishing_polynomial_is_long P Fc K F H a O (f, k)
            (Euclidean.monic_not_zero EU (f, k) l) (zero_from (f, k) e),
      );
    },
  )

  is_own : (g : List X) → IsMinimalPolynomial c d image a.0 g → own.0 ≡ g
  is_own g M = ap (λ y. y.0) (Euclidean.monic_same EU {d = own} {a = (g, M.polynomial)}
      (MinimalPolynomials.minimal_divides P Fc K F H a O (g, M.polynomial)
      (zero_from (g, M.polynomial) M.vanishes))
      (MinimalPolynomials.minimal_monic P Fc K F H a O) M.monic
      (M.least own.0 own.1 (MinimalPolynomials.minimal_monic P Fc K F H a O)
      (zero_to own (MinimalPolynomials.minimal_vanishes P Fc K F H a O))))

  -- **minimal polynomials keep the facts**
  pub minimal_facts : MinimalFacts c d image a.0
  minimal_facts = record {
    exists = minimal_exists;
    unique = λ g f M N. sym (is_own g M) ∙ is_own f N;
    irreducible = λ g M. subst (IsIrreducible c) (is_own g M)
        (MinimalPolynomials.minimal_irreducible P Fc K F H a O);
    divides = λ g M f k e. subst (λ t. Divides c t f) (is_own g M)
        (divides_to P Fc own (f, k)
        (MinimalPolynomials.minimal_divides P Fc K F H a O (f, k) (zero_from (f, k) e)));
    is_irreducible_one = λ g M f l i e. sym (is_own g M)
        ∙ ap (λ y. y.0) (MinimalPolynomials.irreducible_is_minimal P Fc K F H a O
        (f, i.polynomial) l i (zero_from (f, i.polynomial) e));
  }

-- **over the prime field**
pub prime_minimals : (F : Field) → IsFiniteField F → (a : List ℕ) → (field_values F).Valid a
    → MinimalFacts (residues F.characteristic) (field_values F) (constant F) a
prime_minimals F W a va =
    let p : ℕ = F.characteristic in
    let N : IsModulus F.characteristic F.polynomial = modulus_of F W in
    minimal_facts (residues_propositional p) (prime_residues_field p W.characteristic)
    (propositional p W.characteristic F.polynomial N)
    (field_is p W.characteristic F.polynomial N).ring (residues_finite p W.characteristic)
    (finite p W.characteristic F.polynomial N)
    (of_residue_homomorphism p W.characteristic F.polynomial N) (constant F) (λ b. refl) (a, va)

-- **over a subfield, by its embedding**
pub subfield_minimals : (E F : Field) → IsFiniteField E → IsFiniteField F → (m : List (List ℕ))
    → IsEmbedding E F m → (a : List ℕ) → (field_values F).Valid a
    → MinimalFacts (field_values E) (field_values F) (apply F m) a
subfield_minimals E F V W m D a va = of_two_fields
    (λ E F. IsEmbedding E F m → (field_values F).Valid a
    → MinimalFacts (field_values E) (field_values F) (apply F m) a)
    (λ p h f M g N D va. minimal_facts (propositional p h f M) (field_is p h f M)
    (propositional p h g N) (field_is p h g N).ring (finite p h f M) (finite p h g N)
    (function_homomorphism p h f M g N m D) (apply (field_of p g) m) (λ b. refl) (a, va)) E F V W
    D.same_characteristic D va
