-- A value of a field of degree n over the prime field is a root of a monic polynomial of degree at
-- most s over a subfield of degree m, where n = m s: its minimal polynomial, since n powers of
-- Frobenius bring the value back.
use Rattle.std.proofs.Common.{◌≡◌, ℕ, suc, ◌*◌, ◌^◌, ◌<◌, ◌≤◌, List, length, refl, ap, sym, ◌∙◌, ⊎_elim, arith}
use Rattle.std.proofs.lemmas.Bool.{cases_lt}
use native.Mathlib.Nat.{mul-zero, one-mul}
use Rattle.alg_model.specs.Coefficients.{Carrier, residues, power}
use Rattle.alg_model.specs.Fields.{IsRing, IsField}
use Rattle.alg_model.specs.Maps.{Field, IsFiniteField, field_values, degree_of, constant, apply, IsEmbedding}
use Rattle.alg_model.specs.Roots.{IsMinimalPolynomial}
use Rattle.alg_rings.specs.Laws.{IsPropositional}
use Rattle.alg_rings.proofs.Elements.{Element, element_ops, underlying_injective}
use Rattle.alg_rings.proofs.Homomorphisms.{Homomorphism}
use Rattle.alg_rings.proofs.ResidueFields.{prime_residues_field, residues_propositional}
use Rattle.alg_rings.proofs.Divisors.{Polynomial}
use Rattle.alg_divisors.proofs.Euclidean
use Rattle.alg_divisors.proofs.EuclideanPolynomials.{over_field}
use Rattle.alg_finite.proofs.FiniteField.{FiniteField, frobenius, frobenius_of_power}
use Rattle.alg_finite.proofs.FiniteValues.{residues_finite}
use Rattle.alg_finite.proofs.Orbits.{Orbit, orbit_of}
use Rattle.alg_finite.proofs.MinimalPolynomials
use Rattle.alg_galois.proofs.Fields.{IsModulus, modulus_of, field_of, propositional, field_is, laws, of_residue_homomorphism, finite, evaluate_value, power_value}
use Rattle.alg_galois.proofs.FieldEmbeddings.{function_homomorphism}
use Rattle.alg_galois.proofs.Embeddings.{of_two_fields}

-- a minimal polynomial of degree at most s
pub record IsShort {X Y : Type 0} (c : Carrier X) (d : Carrier Y) (image : X → Y) (a : Y) (s : ℕ)
    (g : List X) : Type 0 where
  pub minimal : IsMinimalPolynomial c d image a g
  pub degree : ℕ
  pub long : length g ≡ suc degree
  pub positive : 0 < degree
  pub small : degree ≤ s

module _ {X Y : Type 0} {c : Carrier X} {d : Carrier Y} (P : IsPropositional c) (Fc : IsField c)
    (Q : IsPropositional d) (R : IsRing d) {p m n : ℕ}
    (K : FiniteField (element_ops Fc.ring) p m)
    (F : FiniteField (element_ops R) p n) {h : Element c → Element d}
    (H : Homomorphism (element_ops Fc.ring) (element_ops R) h) (image : X → Y)
    (same : (x : Element c) → (h x).0 ≡ image x.0) (a : Element d) (s : ℕ) (total : m * s ≡ n) where
  abbrev O : Orbit (element_ops R) h (p ^ m) a
  O = orbit_of H K F a

  positive : 0 < s
  positive = ⊎_elim (λ l. l)
      (λ l. let none : s ≡ 0 = omega arith in
      let some : 0 < n = F.positive in
      absurd (omega (arith, some, sym total ∙ ap (λ t. m * t) none ∙ mul-zero m))) (cases_lt 0 s)

  small_orbit : (orbit_of H K F a).size ≤ s
  small_orbit = O.period.least s positive
      (frobenius_of_power F.field.ring p m s a
      ∙ ap (λ i. power (element_ops R) a (p ^ i)) total ∙ F.fixed a)

  open over_field P Fc use {laws as EU}

  -- **there is one, and as many powers of Frobenius as its degree bring a back**
  pub short_exists : (g : List X) × (S : IsShort c d image a.0 s g)
      × (frobenius (element_ops R) (p ^ m) S.degree a ≡ a)
  short_exists =
      let own : Polynomial c = MinimalPolynomials.minimal P Fc K F H a (orbit_of H K F a) in (
        own.0,
        record {
          minimal = record {
            polynomial = own.1;
            monic = MinimalPolynomials.minimal_monic P Fc K F H a O;
            vanishes = sym (evaluate_value c R h image same own a)
                ∙ ap (λ y. y.0) (MinimalPolynomials.minimal_vanishes P Fc K F H a O);
            least = λ f k l e. omega (
              arith,
              MinimalPolynomials.length_minimal P Fc K F H a O,
              MinimalPolynomials.vanishing_polynomial_is_long P Fc K F H a O (f, k)
                  (Euclidean.monic_not_zero EU (f, k) l)
                  (underlying_injective Q _ _ (evaluate_value c R h image same (f, k) a ∙ e)),
            );
          };
          degree = O.size;
          long = MinimalPolynomials.length_minimal P Fc K F H a O;
          positive = O.period.positive;
          small = small_orbit;
        },
        O.period.returns,
      )

-- **over the prime field**
pub prime_short : (F : Field) → IsFiniteField F → (a : List ℕ) → (field_values F).Valid a
    → (g : List ℕ)
    × IsShort (residues F.characteristic) (field_values F) (constant F) a (degree_of F) g
prime_short F W a va =
    let p : ℕ = F.characteristic in
    let N : IsModulus F.characteristic F.polynomial = modulus_of F W in
    let S = short_exists (residues_propositional p) (prime_residues_field p W.characteristic)
    (propositional p W.characteristic F.polynomial N)
    (field_is p W.characteristic F.polynomial N).ring (residues_finite p W.characteristic)
    (finite p W.characteristic F.polynomial N)
    (of_residue_homomorphism p W.characteristic F.polynomial N) (constant F) (λ b. refl) (a, va)
    (degree_of F) (one-mul (degree_of F)) in (S.0, S.1)

-- **over a subfield, by its embedding**
pub subfield_short : (E F : Field) → IsFiniteField E → IsFiniteField F → (m : List (List ℕ))
    → IsEmbedding E F m → (a : List ℕ) → (field_values F).Valid a
    → (s : ℕ) → degree_of E * s ≡ degree_of F
    → (g : List (List ℕ)) × (S : IsShort (field_values E) (field_values F) (apply F m) a s g)
    × (power (field_values F).ops a (F.characteristic ^ (degree_of E * S.degree)) ≡ a)
subfield_short E F V W m D a va s total = of_two_fields
    (λ E F. IsEmbedding E F m → (field_values F).Valid a → degree_of E * s ≡ degree_of F
    → (g : List (List ℕ)) × (S : IsShort (field_values E) (field_values F) (apply F m) a s g)
    × (power (field_values F).ops a (F.characteristic ^ (degree_of E * S.degree)) ≡ a))
    (λ p h f M g N D va total.
    let S = short_exists (propositional p h f M) (field_is p h f M) (propositional p h g N)
    (field_is p h g N).ring (finite p h f M) (finite p h g N)
    (function_homomorphism p h f M g N m D) (apply (field_of p g) m) (λ b. refl) (a, va) s total in (
      S.0,
      S.1,
      sym (power_value p h g N (a, va) (p ^ (degree_of (field_of p f) * S.1.degree)))
          ∙ ap (λ y. y.0) (sym (frobenius_of_power (laws p h g N).ring p (degree_of (field_of p f))
          S.1.degree (a, va)) ∙ S.2),
    )) E F V W D.same_characteristic D va total
