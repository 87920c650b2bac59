-- Polynomials over the prime field as polynomials over a field F of its characteristic.
use Rattle.std.proofs.Common.{◌≡◌, ℕ, ◌<◌, List, [], ◌∷◌, All, length, map, slice_index_or, refl, ap, ap₂, sym, ◌∙◌, subst, arith}
use Rattle.std.proofs.lemmas.List.{length-map}
use Rattle.alg_model.specs.Coefficients.{Ops, power, mod_ops, residues, IsPrime}
use Rattle.alg_model.specs.Polynomials.{poly_sum, poly_product, poly_power, trim, leading, evaluate}
use Rattle.alg_model.specs.Factors.{IsPolynomial, IsMonic, IsDivision, Divides}
use Rattle.alg_model.specs.Maps.{Field, IsFiniteField, field_values, generator, constant, constants}
use Rattle.alg_model.specs.Roots.{IsRoot}
use Rattle.alg_rings.proofs.Elements.{Element, underlying, element_ops, underlying_homomorphism, elements, elements_are, on_valid, on_valid₂, underlying_valid}
use Rattle.alg_rings.proofs.Homomorphisms.{Homomorphism, trim-map, poly_sum-map, poly_product-map, poly_power-map, leading-map, evaluate-map, power-map}
use Rattle.alg_rings.proofs.CarrierPolynomials.{poly_product_polynomial}
use Rattle.alg_rings.proofs.ResidueFields.{prime_residues_field, residues_propositional}
use Rattle.alg_finite.proofs.RootMaps
use Rattle.alg_finite.proofs.Values
use Rattle.alg_finite.proofs.Values.{map_twice}
use Rattle.alg_galois.proofs.Fields.{IsModulus, modulus_of, field_of, map_map, modulus, field_is, ops, laws, of_residue, of_residue_homomorphism, power_value}
use Rattle.alg_galois.proofs.FieldEmbeddings.{composed}
use Rattle.alg_galois.proofs.Embeddings.{of_two_fields}
use Rattle.alg_galois.proofs.EmbeddingRoots.{root_from}
use Rattle.alg_splitting.specs.PrivateSearch.{variable}

-- ---- a field E of the same characteristic, at a root in F of its polynomial
module _ (p : ℕ) (h : IsPrime p) (f : List ℕ) (M : IsModulus p f) (g : List ℕ)
    (N : IsModulus p g) (v : List ℕ)
    (r : IsRoot (field_of p g) (constants (field_of p g) f) v) where
  abbrev a : Element (field_values (field_of p g))
  a = (v, r.0)

  -- the value of y's coefficients at v
  at_root : Element (field_values (field_of p f)) → Element (field_values (field_of p g))
  at_root y = RootMaps.root_map (residues_propositional p) (prime_residues_field p h)
      (modulus p h f M) M.irreducible.not_constant M.monic (laws p h g N)
      (of_residue_homomorphism p h g N) (v, r.0) (root_from p h f M g N v r) y

  kept : Homomorphism (ops p h f M) (ops p h g N) at_root
  unfolding at_root
  kept = RootMaps.root_homomorphism (residues_propositional p) (prime_residues_field p h)
      (modulus p h f M) M.irreducible.not_constant M.monic (laws p h g N)
      (of_residue_homomorphism p h g N) (v, r.0) (root_from p h f M g N v r) M.irreducible

  value_at_root : (y : Element (field_values (field_of p f)))
      → (at_root y).0
      ≡ evaluate (field_values (field_of p g)).ops (constants (field_of p g) y.0) v
  unfolding at_root
  value_at_root y =
      evaluate-map (underlying_homomorphism (field_is p h g N).ring)
      (map (of_residue p h g N) (elements (residues p) y.0 y.1.0)) a
      ∙ ap (λ l. evaluate (field_values (field_of p g)).ops l v)
      (map_map (underlying (field_values (field_of p g))) (of_residue p h g N)
      (constant (field_of p g)) (underlying (residues p)) (λ b. refl)
      (elements (residues p) y.0 y.1.0)
      ∙ ap (constants (field_of p g)) (elements_are (residues p) y.0 y.1.0))

  power_at_root : (y : List ℕ) → (field_values (field_of p f)).Valid y → (n : ℕ)
      → evaluate (field_values (field_of p g)).ops
      (constants (field_of p g) (power (field_values (field_of p f)).ops y n)) v
      ≡ power (field_values (field_of p g)).ops
      (evaluate (field_values (field_of p g)).ops (constants (field_of p g) y) v) n
  power_at_root y vy n =
      ap (λ z. evaluate (field_values (field_of p g)).ops (constants (field_of p g) z) v)
      (sym (power_value p h f M (y, vy) n))
      ∙ sym (value_at_root (power (ops p h f M) (y, vy) n))
      ∙ ap (λ z. z.0) (power-map kept (y, vy) n)
      ∙ power_value p h g N (at_root (y, vy)) n
      ∙ ap (λ z. power (field_values (field_of p g)).ops z n) (value_at_root (y, vy))

  generator_at_root : evaluate (field_values (field_of p g)).ops
      (constants (field_of p g) (generator (field_of p f))) v ≡ v
  unfolding at_root
  generator_at_root =
      sym (value_at_root (Values.generator_element (residues_propositional p)
      (prime_residues_field p h) (modulus p h f M) M.irreducible.not_constant M.monic))
      ∙ ap (λ z. z.0) (RootMaps.root_map_generator (residues_propositional p)
      (prime_residues_field p h) (modulus p h f M) M.irreducible.not_constant M.monic
      (laws p h g N) (of_residue_homomorphism p h g N) (v, r.0) (root_from p h f M g N v r))

module _ (F : Field) (W : IsFiniteField F) where
  abbrev N : IsModulus F.characteristic F.polynomial
  N = modulus_of F W

  abbrev E : Ops (Element (residues F.characteristic))
  E = element_ops (prime_residues_field F.characteristic W.characteristic).ring

  abbrev U : List (Element (residues F.characteristic)) → List ℕ
  U = map (underlying (residues F.characteristic))

  value_homomorphism : Homomorphism
      (element_ops (prime_residues_field F.characteristic W.characteristic).ring)
      (field_values F).ops
      (λ (b : Element (residues F.characteristic)). constant F b.0)
  value_homomorphism = composed
      (of_residue_homomorphism F.characteristic W.characteristic F.polynomial (modulus_of F W))
      (underlying_homomorphism
      (field_is F.characteristic W.characteristic F.polynomial (modulus_of F W)).ring)

  of_elements : (G : List (Element (residues F.characteristic)))
      → constants F (map (underlying (residues F.characteristic)) G)
      ≡ map (λ (b : Element (residues F.characteristic)). constant F b.0) G
  of_elements G = map_twice (constant F) (underlying (residues F.characteristic))
      (λ b. constant F b.0) (λ b. refl) G

  abbrev below : Homomorphism
      (element_ops (prime_residues_field F.characteristic W.characteristic).ring)
      (mod_ops F.characteristic) (underlying (residues F.characteristic))
  below = underlying_homomorphism
      (prime_residues_field F.characteristic W.characteristic).ring

  -- a residue is a value
  pub constant_valid : (c : ℕ) → c < F.characteristic → (field_values F).Valid (constant F c)
  constant_valid c l = (of_residue F.characteristic W.characteristic F.polynomial N (c, l)).1

  -- constants that are equal are the same residue
  pub constant_injective : (a b : ℕ) → a < F.characteristic → b < F.characteristic
      → constant F a ≡ constant F b → a ≡ b
  constant_injective a b la lb e = ap (λ w. slice_index_or w 0 0) e

  -- and a list of residues one of values
  pub constants_valid : (f : List ℕ) → All (residues F.characteristic).Valid f
      → All (field_values F).Valid (constants F f)
  constants_valid f vf = on_valid (residues F.characteristic)
      (λ f. All (field_values F).Valid (constants F f))
      (λ G. subst (All (field_values F).Valid)
      (map_map (underlying (field_values F))
      (of_residue F.characteristic W.characteristic F.polynomial N)
      (constant F) (underlying (residues F.characteristic)) (λ b. refl) G)
      (underlying_valid (field_values F)
      (map (of_residue F.characteristic W.characteristic F.polynomial N) G))) f vf

  -- zeros at the end are dropped alike
  pub constants_trim : (f : List ℕ) → All (residues F.characteristic).Valid f
      → constants F (trim (mod_ops F.characteristic) f)
      ≡ trim (field_values F).ops (constants F f)
  constants_trim f vf = on_valid (residues F.characteristic)
      (λ f. constants F (trim (mod_ops F.characteristic) f)
      ≡ trim (field_values F).ops (constants F f))
      (λ G. ap (constants F) (sym (trim-map below G)) ∙ of_elements (trim E G)
      ∙ trim-map value_homomorphism G
      ∙ ap (trim (field_values F).ops) (sym (of_elements G))) f vf

  -- **a polynomial over the prime field is one over F**
  pub constants_polynomial : (f : List ℕ) → IsPolynomial (residues F.characteristic) f
      → IsPolynomial (field_values F) (constants F f)
  constants_polynomial f vf = (
    constants_valid f vf.0,
    sym (constants_trim f vf.0) ∙ ap (constants F) vf.1,
  )

  -- of as many coefficients
  pub length_constants : (f : List ℕ) → length (constants F f) ≡ length f
  length_constants f = length-map f (constant F)

  -- monic where it was
  pub constants_monic : (f : List ℕ) → All (residues F.characteristic).Valid f
      → IsMonic (residues F.characteristic) f → IsMonic (field_values F) (constants F f)
  constants_monic f vf m = on_valid (residues F.characteristic)
      (λ f. IsMonic (residues F.characteristic) f → IsMonic (field_values F) (constants F f))
      (λ G m. ap (leading (field_values F).ops) (of_elements G)
      ∙ sym (leading-map value_homomorphism G)
      ∙ ap (constant F) (leading-map below G ∙ m)
      ∙ value_homomorphism.one) f vf m

  -- sums are kept
  pub constants_sum : (f g : List ℕ) → All (residues F.characteristic).Valid f
      → All (residues F.characteristic).Valid g
      → constants F (poly_sum (mod_ops F.characteristic) f g)
      ≡ poly_sum (field_values F).ops (constants F f) (constants F g)
  constants_sum f g vf vg = on_valid₂ (residues F.characteristic)
      (λ f g. constants F (poly_sum (mod_ops F.characteristic) f g)
      ≡ poly_sum (field_values F).ops (constants F f) (constants F g))
      (λ G K. ap (constants F) (sym (poly_sum-map below G K)) ∙ of_elements (poly_sum E G K)
      ∙ poly_sum-map value_homomorphism G K
      ∙ ap₂ (poly_sum (field_values F).ops) (sym (of_elements G)) (sym (of_elements K)))
      f g vf vg

  -- products
  pub constants_product : (f g : List ℕ) → All (residues F.characteristic).Valid f
      → All (residues F.characteristic).Valid g
      → constants F (poly_product (mod_ops F.characteristic) f g)
      ≡ poly_product (field_values F).ops (constants F f) (constants F g)
  constants_product f g vf vg = on_valid₂ (residues F.characteristic)
      (λ f g. constants F (poly_product (mod_ops F.characteristic) f g)
      ≡ poly_product (field_values F).ops (constants F f) (constants F g))
      (λ G K. ap (constants F) (sym (poly_product-map below G K)) ∙ of_elements (poly_product E G K)
      ∙ poly_product-map value_homomorphism G K
      ∙ ap₂ (poly_product (field_values F).ops) (sym (of_elements G)) (sym (of_elements K)))
      f g vf vg

  -- and powers
  pub constants_power : (f : List ℕ) → All (residues F.characteristic).Valid f → (n : ℕ)
      → constants F (poly_power (mod_ops F.characteristic) f n)
      ≡ poly_power (field_values F).ops (constants F f) n
  constants_power f vf n = on_valid (residues F.characteristic)
      (λ f. constants F (poly_power (mod_ops F.characteristic) f n)
      ≡ poly_power (field_values F).ops (constants F f) n)
      (λ G. ap (constants F) (sym (poly_power-map below G n)) ∙ of_elements (poly_power E G n)
      ∙ poly_power-map value_homomorphism G n
      ∙ ap (λ w. poly_power (field_values F).ops w n) (sym (of_elements G))) f vf

  -- **divisions**
  pub constants_division : (f d q r : List ℕ) → IsPolynomial (residues F.characteristic) d
      → IsDivision (residues F.characteristic) f d q r
      → IsDivision (field_values F) (constants F f) (constants F d) (constants F q) (constants F r)
  constants_division f d q r vd D = record {
    quotient = constants_polynomial q D.quotient;
    remainder = constants_polynomial r D.remainder;
    identity = ap (λ w. poly_sum (field_values F).ops w (constants F r))
        (sym (constants_product q d D.quotient.0 vd.0))
        ∙ sym (constants_sum (poly_product (mod_ops F.characteristic) q d) r
        (poly_product_polynomial (residues_propositional F.characteristic)
        (prime_residues_field F.characteristic W.characteristic).ring q d D.quotient vd).0
        D.remainder.0)
        ∙ ap (constants F) D.identity;
    smaller = omega (arith, D.smaller, length_constants r, length_constants d);
  }

  -- and divisors
  pub constants_divides : (g f : List ℕ) → IsPolynomial (residues F.characteristic) g
      → Divides (residues F.characteristic) g f
      → Divides (field_values F) (constants F g) (constants F f)
  constants_divides g f vg d = (
    constants F d.0,
    constants_polynomial d.0 d.1,
    sym (constants_product d.0 g d.1.0 vg.0) ∙ ap (constants F) d.2,
  )

  -- y is y
  pub constants_variable : constants F (0 ∷ 1 ∷ []) ≡ variable F
  constants_variable = ap₂ (λ b d. b ∷ d ∷ []) value_homomorphism.zero value_homomorphism.one

  -- ---- a field E of the same characteristic, at a root v in F of its polynomial
  module _ (E : Field) (V : IsFiniteField E) (e : E.characteristic ≡ F.characteristic)
      (v : List ℕ) (r : IsRoot F (constants F E.polynomial) v) where
    -- **a power of a value of E has the power of its value at v**
    pub value_of_field_power : (y : List ℕ) → (field_values E).Valid y → (n : ℕ)
        → evaluate (field_values F).ops (constants F (power (field_values E).ops y n)) v
        ≡ power (field_values F).ops (evaluate (field_values F).ops (constants F y) v) n
    value_of_field_power y vy n = of_two_fields
        (λ E F. IsRoot F (constants F E.polynomial) v → (field_values E).Valid y
        → evaluate (field_values F).ops (constants F (power (field_values E).ops y n)) v
        ≡ power (field_values F).ops (evaluate (field_values F).ops (constants F y) v) n)
        (λ p h f M g N r vy. power_at_root p h f M g N v r y vy n) E F V W e r vy

    -- **the generator of E has the value v**
    pub value_of_field_generator :
        evaluate (field_values F).ops (constants F (generator E)) v ≡ v
    value_of_field_generator = of_two_fields
        (λ E F. IsRoot F (constants F E.polynomial) v
        → evaluate (field_values F).ops (constants F (generator E)) v ≡ v)
        (λ p h f M g N r. generator_at_root p h f M g N v r) E F V W e r
