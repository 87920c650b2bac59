-- A polynomial with derivative zero over a field whose elements are their own powers p: it is the power p of the polynomial
-- with its coefficients at 0, p, 2 p, ..
use Rattle.std.proofs.Common.{◌≡◌, ⊎_elim, ℕ, zero, suc, ◌+◌, ◌-◌, ◌*◌, ◌/◌, ◌%◌, ◌<◌, ◌≤◌, List, [], ◌∷◌, map, length, slice_index_or, refl, ap, sym, ◌∙◌, arith, subst, zero-mul}
use Rattle.std.proofs.Math.Nat.{div-add-mod, mul-le-mul_left, mul-le-mul_right}
use Rattle.std.proofs.lemmas.Bool.{cases_eq, cases_lt}
use Rattle.std.proofs.lemmas.List.{length-map, nil_from_length, get_or_past}
use Rattle.alg_model.specs.Coefficients.{Ops, Carrier, times, power}
use Rattle.alg_model.specs.Polynomials.{trim, derivative}
use Rattle.alg_model.specs.Factors.{IsMonic, IsProperFactor}
use Rattle.alg_model.specs.Fields.{IsField}
use Rattle.alg_rings.specs.Laws.{RingLaws, IsPropositional}
use Rattle.alg_rings.proofs.Trims
use Rattle.alg_rings.proofs.CarrierPolynomials
use Rattle.alg_rings.proofs.Homomorphisms
use Rattle.alg_rings.proofs.Homomorphisms.{Homomorphism}
use Rattle.alg_rings.proofs.Elements.{Element, underlying, element_ops, elements, elements_are, underlying_homomorphism, element_laws, underlying_valid}
use Rattle.alg_rings.proofs.Divisors.{Polynomial, polynomial_ops, polynomial_laws, same_polynomial}
use Rattle.alg_divisors.proofs.PolynomialFactors.{divides_to}
use Rattle.alg_fields.proofs.OnCarriers
use Rattle.alg_model.specs.Coefficients.{IsPrime}
use Rattle.alg_fields.proofs.Derivatives
use Rattle.alg_fields.proofs.Derivatives.{raw_derivative}
use Rattle.alg_fields.proofs.PowerRoots
use Rattle.alg_fields.proofs.PowerRoots.{every}
use Rattle.alg_fields.proofs.Constants.{constant_homomorphism}
use Rattle.alg_fields.proofs.Classes.{class_of}
use Rattle.alg_fields.proofs.Generator.{generator, value_at_generator}

every_at : {A : Type 0} (p : ℕ) (z : A) → 0 < p → (j : ℕ) (f : List A) (i : ℕ) → slice_index_or (every p (λ a. a) j f) i z ≡ slice_index_or f (j + i * p) z
every_at p z l j [] i = refl
every_at p z l zero (a ∷ f) zero = let e : 0 ≡ 0 + 0 * p = omega arith in ap (λ k. slice_index_or (a ∷ f) k z) e
every_at p z l zero (a ∷ f) (suc i) =
    let e : suc (p - 1 + i * p) ≡ 0 + suc i * p = omega arith in
    every_at p z l (p - 1) f i ∙ ap (λ k. slice_index_or (a ∷ f) k z) e
every_at p z l (suc j) (a ∷ f) i =
    let e : suc (j + i * p) ≡ suc j + i * p = omega arith in
    every_at p z l j f i ∙ ap (λ k. slice_index_or (a ∷ f) k z) e

module _ {A : Type 0} {c : Carrier A} (P : IsPropositional c) (F : IsField c) (p : ℕ) (prime : IsPrime p)
    (characteristic : times (element_ops F.ring) p (element_ops F.ring).one ≡ (element_ops F.ring).zero)
    (fixed : (a : Element c) → power (element_ops F.ring) a p ≡ a) where
  abbrev E : Ops (Element c)
  E = element_ops F.ring

  abbrev L : RingLaws (element_ops F.ring)
  L = element_laws P F.ring

  abbrev Q : Ops (Polynomial c)
  Q = polynomial_ops P F.ring

  abbrev H : Homomorphism (element_ops F.ring) c.ops (underlying c)
  H = underlying_homomorphism F.ring

  power_of_every : (X : List (Element c)) → derivative E X ≡ []
      → class_of P F.ring (map (underlying c) X) (underlying_valid c X) ≡ power Q (class_of P F.ring (map (underlying c) (every p (λ a. a) 0 X)) (underlying_valid c (every p (λ a. a) 0 X))) p
  power_of_every X e =
      sym (value_at_generator P F.ring X (underlying_valid c X))
      ∙ PowerRoots.power_from_derivative L (polynomial_laws P F.ring) (constant_homomorphism P F.ring) p prime characteristic (λ a. a) fixed
      (generator P F.ring) X
      (λ i. Trims.places_of_trim E L.zero_test (raw_derivative E X) [] (sym (Derivatives.derivative_is_trimmed L X) ∙ e) i)
      ∙ ap (λ g. power Q g p) (value_at_generator P F.ring (every p (λ a. a) 0 X) (underlying_valid c (every p (λ a. a) 0 X)))

  -- **the root p**
  pub power_of_root : (f g : Polynomial c) → derivative c.ops f.0 ≡ []
      → ((i : ℕ) → slice_index_or g.0 i c.ops.zero ≡ slice_index_or f.0 (i * p) c.ops.zero) → power Q g p ≡ f
  power_of_root f g e at =
      ap (λ g. power Q g p) (same_polynomial P F.ring g (class_of P F.ring (map (underlying c) Y) (underlying_valid c Y))
      (sym g.1.1 ∙ CarrierPolynomials.trim_same P F.ring g.0 (map (underlying c) Y) g.1.0 (underlying_valid c Y) places))
      ∙ sym (power_of_every X derivative_zero)
      ∙ same_polynomial P F.ring (class_of P F.ring (map (underlying c) X) (underlying_valid c X)) f (ap (trim c.ops) (elements_are c f.0 f.1.0) ∙ f.1.1)
    where
      X : List (Element c)
      X = elements c f.0 f.1.0

      Y : List (Element c)
      Y = every p (λ a. a) 0 X

      derivative_zero : derivative E X ≡ []
      derivative_zero = nil_from_length (derivative E X)
          (sym (length-map (derivative E X) (underlying c))
          ∙ ap length (Homomorphisms.derivative-map H X ∙ ap (derivative c.ops) (elements_are c f.0 f.1.0) ∙ e))

      places : (i : ℕ) → slice_index_or g.0 i c.ops.zero ≡ slice_index_or (map (underlying c) Y) i c.ops.zero
      places i =
          let z : 0 + i * p ≡ i * p = omega arith in
          at i ∙ ap (λ xs. slice_index_or xs (i * p) c.ops.zero) (sym (elements_are c f.0 f.1.0))
          ∙ sym (Homomorphisms.place-map H X (i * p))
          ∙ ap (underlying c) (ap (λ k. slice_index_or X k E.zero) (sym z) ∙ sym (every_at p E.zero (let l : 1 < p = prime.above_one in omega arith) 0 X i))
          ∙ Homomorphisms.place-map H Y i

  -- **and a proper factor**
  pub root_is_factor : (f g : Polynomial c) → IsMonic c f.0 → 1 < length f.0 → derivative c.ops f.0 ≡ []
      → ((i : ℕ) → slice_index_or g.0 i c.ops.zero ≡ slice_index_or f.0 (i * p) c.ops.zero) → IsProperFactor c f.0 g.0
  root_is_factor f g monic larger e at = record {
    polynomial = g.1;
    monic = Trims.leading_at c.ops g.0 ∙ ap (λ k. slice_index_or g.0 k c.ops.zero) last ∙ top;
    not_constant = omega (arith, at_least_one, longer);
    smaller = omega (arith, at_least_one, not_longer, twice, whole);
    divides = divides_to P F g f (record { quotient = power Q g (p - 1); identity = ap (power Q g) positive ∙ power_of_root f g e at });
  }
    where
      degree_of : ℕ
      degree_of = length f.0 - 1

      m : ℕ
      m = degree_of / p

      above_one : 1 < p
      above_one = prime.above_one

      positive : suc (p - 1) ≡ p
      positive = omega arith

      top_of_f : slice_index_or f.0 degree_of c.ops.zero ≡ c.ops.one
      top_of_f = sym (Trims.leading_at c.ops f.0) ∙ monic

      whole : m * p ≡ degree_of
      whole = ⊎_elim (λ z. let d : p * m + degree_of % p ≡ degree_of = div-add-mod degree_of p in omega arith)
          (λ n. absurd (F.one_not_zero (sym top_of_f ∙
          (OnCarriers.derivative_zero_iff_places P F.ring p prime (OnCarriers.characteristic_of_carrier P F.ring p characteristic) f.0 f.1.0).0 e degree_of n)))
          (cases_eq (degree_of % p) 0)

      top : slice_index_or g.0 m c.ops.zero ≡ c.ops.one
      top = at m ∙ ap (λ k. slice_index_or f.0 k c.ops.zero) whole ∙ top_of_f

      at_least_one : 0 < m
      at_least_one = ⊎_elim (λ z. absurd (omega (arith, sym whole ∙ ap (λ k. k * p) z ∙ zero-mul p))) (λ n. omega (arith, n)) (cases_eq m 0)

      twice : m * 2 ≤ m * p
      twice = mul-le-mul_left m above_one

      not_longer : length g.0 ≤ suc m
      not_longer = subst (λ h. length h ≤ suc m) g.1.1 (CarrierPolynomials.length_trim_below P F.ring g.0 (suc m) g.1.0
          (λ k l. at k ∙ get_or_past f.0 (k * p) c.ops.zero (past k l)))
        where
          past : (k : ℕ) → suc m ≤ k → length f.0 ≤ k * p
          past k l = let h : suc m * p ≤ k * p = mul-le-mul_right p l in let s : suc m * p ≡ m * p + p = omega arith in omega arith

      longer : m < length g.0
      longer = ⊎_elim (λ l. l) (λ l. absurd (F.one_not_zero (sym top ∙ get_or_past g.0 m c.ops.zero l))) (cases_lt m (length g.0))

      last : length g.0 - 1 ≡ m
      last = omega (arith, longer, not_longer)
