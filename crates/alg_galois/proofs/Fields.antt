-- The field with characteristic p and polynomial f as a finite field, and statements on two fields
-- of one characteristic.
--     IsModulus p f     f is monic and irreducible over the residues modulo p
--     field_of p f      the field with this characteristic and this polynomial
use Rattle.std.proofs.Common.{◌≡◌, ℕ, suc, ◌+◌, ◌%◌, ◌<◌, ◌≤◌, List, [], ◌∷◌, map, refl, ap, ap₂, sym, ◌∙◌, subst, arith, ◌*◌, length}
use Rattle.std.proofs.Math.Nat.{one-mul, mod-eq_of_lt}
use native.Mathlib.Nat.{mod-add-mod}
use Rattle.std.proofs.lemmas.List.Elements.{All-nil, All-cons}
use Rattle.alg_model.specs.Coefficients.{Ops, Carrier, power, residues, IsPrime}
use Rattle.alg_model.specs.Polynomials.{evaluate}
use Rattle.alg_model.specs.Factors.{IsMonic, IsIrreducible}
use Rattle.alg_model.specs.Fields.{IsField, IsRing}
use Rattle.alg_model.specs.Maps.{Field, IsFiniteField, field_values, degree_of, generator, constant, constants}
use Rattle.alg_rings.specs.Laws.{FieldLaws, IsPropositional}
use Rattle.alg_rings.proofs.Elements.{Element, underlying, element_ops, underlying_injective, underlying_homomorphism, elements_are}
use Rattle.alg_rings.proofs.Homomorphisms.{Homomorphism, evaluate-map, power-map}
use Rattle.alg_rings.proofs.ResidueFields.{prime_residues_field, residues_propositional}
use Rattle.alg_rings.proofs.Divisors.{Polynomial}
use Rattle.alg_fields.proofs.ValueFields.{values_propositional}
use Rattle.alg_fields.proofs.ValueConstants.{constant_value, constant_value_homomorphism}
use Rattle.alg_finite.proofs.FiniteField.{FiniteField}
use Rattle.alg_finite.proofs.Evaluation.{coefficients, evaluate_by}
use Rattle.alg_finite.proofs.Values
use Rattle.alg_finite.proofs.FiniteValues.{residues_finite, values_finite}

pub record IsModulus (p : ℕ) (f : List ℕ) : Type 0 where
  pub monic : IsMonic (residues p) f
  pub irreducible : IsIrreducible (residues p) f

-- the polynomial of a finite field
pub modulus_of : (K : Field) → IsFiniteField K → IsModulus K.characteristic K.polynomial
modulus_of K W = record { monic = W.monic; irreducible = W.irreducible }

-- the field with characteristic p and polynomial f
abbrev pub field_of : ℕ → List ℕ → Field
field_of p f = record { characteristic = p; polynomial = f }

-- **the field with p elements, whose polynomial is x, is a finite field**
pub prime_field_finite : (p : ℕ) → IsPrime p → IsFiniteField (field_of p (0 ∷ 1 ∷ []))
prime_field_finite p h = record {
  characteristic = h;
  monic = refl;
  irreducible = record {
    polynomial = (
      All-cons (λ a. a < p) 0 (1 ∷ []) (let l : 1 < p = h.above_one in omega arith)
          (All-cons (λ a. a < p) 1 [] h.above_one (All-nil (λ a. a < p))),
      refl,
    );
    not_constant = omega arith;
    no_factor = λ g P. let a : 1 < length g = P.not_constant in
        let b : length g < 2 = P.smaller in
        omega arith;
  };
}

-- what holds of the polynomial of E over the characteristic of F holds of E
pub at_one_characteristic : (E : Field) (p : ℕ) → E.characteristic ≡ p → (T : Field → Type 0)
    → T (field_of p E.polynomial) → T E
at_one_characteristic E p e T t = subst (λ q. T (field_of q E.polynomial)) (sym e) t

-- two maps in either order
pub map_map : {A B C D : Type 0} (g : B → D) (h : A → B) (g' : C → D) (h' : A → C)
    → ((a : A) → g (h a) ≡ g' (h' a)) → (f : List A) → map g (map h f) ≡ map g' (map h' f)
map_map g h g' h' e [] = refl
map_map g h g' h' e (a ∷ f) = ap₂ ◌∷◌ (e a) (map_map g h g' h' e f)

-- values of polynomials, as elements and as lists
pub evaluate_value : {X Y : Type 0} (c : Carrier X) {d : Carrier Y} (R : IsRing d)
    (h : Element c → Element d) (image : X → Y) → ((a : Element c) → (h a).0 ≡ image a.0)
    → (f : Polynomial c) (a : Element d)
    → (evaluate_by c h (element_ops R) f a).0 ≡ evaluate d.ops (map image f.0) a.0
evaluate_value {X} {Y} c {d} R h image e f a =
    evaluate-map (underlying_homomorphism R) (map h (coefficients c f)) a
    ∙ ap (λ w. evaluate d.ops w a.0)
    (map_map (underlying d) h image (underlying c) e (coefficients c f)
    ∙ ap (map image) (elements_are c f.0 f.1.0))

-- what holds of zero, and of a + 1 where of a, holds of all residues
pub residue_induction : (p : ℕ) (h : IsPrime p) (T : Element (residues p) → Type 0)
    → T (element_ops (prime_residues_field p h).ring).zero
    → ((a : Element (residues p)) → T a
    → T ((element_ops (prime_residues_field p h).ring).add a (element_ops (prime_residues_field p h).ring).one))
    → (a : Element (residues p)) → T a
residue_induction p h T z s a =
    subst T (underlying_injective (residues_propositional p) _ _ (mod-eq_of_lt a.1)) (at a.0)
  where
    below : (i : ℕ) → i % p < p
    below i = let l : 2 ≤ p = h.above_one in omega arith

    next : (i : ℕ) → (i % p + 1) % p ≡ suc i % p
    next i = mod-add-mod i p 1 ∙ ap (λ j. j % p) (omega arith)

    at : (i : ℕ) → T (i % p, below i)
    at ℕ.zero = subst T (underlying_injective (residues_propositional p) _ _
        (let l : 2 ≤ p = h.above_one in omega arith)) z
    at (suc i) = subst T (underlying_injective (residues_propositional p) _ _ (next i))
        (s (i % p, below i) (at i))

module _ (p : ℕ) (h : IsPrime p) (f : List ℕ) (M : IsModulus p f) where
  -- the residues modulo p
  abbrev pub prime_field : IsField (residues p)
  prime_field = prime_residues_field p h

  -- f as a polynomial over them
  abbrev pub modulus : Polynomial (residues p)
  modulus = (f, M.irreducible.polynomial)

  -- values are equal and valid in one way
  abbrev pub propositional : IsPropositional (field_values (field_of p f))
  propositional = values_propositional (residues_propositional p) f

  -- the values are a field
  abbrev pub field_is : IsField (field_values (field_of p f))
  field_is = Values.values_field_over (residues_propositional p)
      (prime_residues_field p h) modulus M.irreducible.not_constant M.monic M.irreducible

  -- their operations
  abbrev pub ops : Ops (Element (field_values (field_of p f)))
  ops = Values.value_element_ops (residues_propositional p)
      (prime_residues_field p h) modulus M.irreducible.not_constant M.monic

  -- and the laws of a field on them
  abbrev pub laws : FieldLaws ops
  laws = Values.value_laws (residues_propositional p)
      (prime_residues_field p h) modulus M.irreducible.not_constant M.monic M.irreducible

  -- **a field of the model is a finite field**
  pub finite_over_prime : FiniteField ops p (1 * degree_of (field_of p f))
  finite_over_prime = values_finite (residues_propositional p) (prime_residues_field p h)
      (residues_finite p h) modulus M.irreducible.not_constant M.monic M.irreducible

  -- **with p^n members**
  pub finite : FiniteField ops p (degree_of (field_of p f))
  finite = subst (FiniteField ops p) (one-mul (degree_of (field_of p f))) finite_over_prime

  -- ---- constants
  abbrev pub of_residue : Element (residues p) → Element (field_values (field_of p f))
  of_residue = constant_value (residues_propositional p)
      (prime_residues_field p h) modulus M.irreducible.not_constant M.monic

  -- constants keep the operations
  abbrev pub of_residue_homomorphism : Homomorphism
      (element_ops (prime_residues_field p h).ring) ops of_residue
  of_residue_homomorphism =
      constant_value_homomorphism (residues_propositional p)
      (prime_residues_field p h) modulus M.irreducible.not_constant M.monic

  -- the value of a polynomial over the prime field, as an element and as a list
  pub evaluate_constants : (g : Polynomial (residues p)) (a : Element (field_values (field_of p f)))
      → (evaluate_by (residues p) of_residue ops g a).0
      ≡ evaluate (field_values (field_of p f)).ops (constants (field_of p f) g.0) a.0
  evaluate_constants g a = evaluate_value (residues p) field_is.ring of_residue
      (constant (field_of p f)) (λ b. refl) g a

  -- ---- the generator
  pub generator_valid : (field_values (field_of p f)).Valid (generator (field_of p f))
  generator_valid = subst (field_values (field_of p f)).Valid reduced_generator x.1
    where
      x : Element (field_values (field_of p f))
      x = Values.generator_element (residues_propositional p)
          (prime_residues_field p h) modulus M.irreducible.not_constant M.monic

      reduced_generator : x.0 ≡ generator (field_of p f)
      reduced_generator = refl

  -- powers, as elements and as lists
  abbrev pub power_value : (a : Element (field_values (field_of p f))) (n : ℕ)
      → (power ops a n).0 ≡ power (field_values (field_of p f)).ops a.0 n
  power_value a n = power-map (underlying_homomorphism field_is.ring) a n
