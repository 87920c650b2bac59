-- The polynomial of a field E over a field F with a root v: it is the product of x - w over the orbit
-- of v, and polynomials with one remainder by it have one value at v.
use Rattle.std.proofs.Common.{◌≡◌, ℕ, ◌^◌, List, map, refl, ap, sym, ◌∙◌}
use Rattle.std.specs.List.{range_with_len}
use Rattle.alg_model.specs.Coefficients.{power, residues, mod_ops, IsPrime}
use Rattle.alg_model.specs.Polynomials.{evaluate}
use Rattle.alg_model.specs.Factors.{IsPolynomial}
use Rattle.alg_model.specs.Values.{remainder}
use Rattle.alg_model.specs.Conjugates.{conjugates}
use Rattle.alg_model.specs.Maps.{Field, IsFiniteField, field_values, degree_of, constant, constants}
use Rattle.alg_model.specs.Roots.{IsRoot}
use Rattle.alg_rings.proofs.Elements.{Element, underlying, underlying_homomorphism, elements, elements_are}
use Rattle.alg_rings.proofs.Homomorphisms.{evaluate-map}
use Rattle.alg_rings.proofs.ResidueFields.{prime_residues_field, residues_propositional}
use Rattle.alg_fields.proofs.Roots.{linear_product}
use Rattle.alg_finite.proofs.FiniteField.{frobenius, pow_one}
use Rattle.alg_finite.proofs.FiniteValues.{residues_finite}
use Rattle.alg_finite.proofs.Evaluation.{coefficients}
use Rattle.alg_finite.proofs.Orbits.{orbit, orbit_is, linear_product-map}
use Rattle.alg_finite.proofs.MinimalPolynomials.{root_polynomial}
use Rattle.alg_finite.proofs.RootMaps
use Rattle.alg_finite.proofs.Values
use Rattle.alg_finite.proofs.Values.{map_twice}
use Rattle.alg_galois.proofs.Fields.{IsModulus, field_of, map_map, modulus, field_is, ops, laws, of_residue, of_residue_homomorphism, evaluate_constants, power_value, finite}
use Rattle.alg_galois.proofs.Embeddings.{of_two_fields}
use Rattle.alg_galois.proofs.EmbeddingRoots.{root_from}

module _ (p : ℕ) (h : IsPrime p) (f : List ℕ) (M : IsModulus p f) (g : List ℕ)
    (N : IsModulus p g) (v : List ℕ)
    (r : IsRoot (field_of p g) (constants (field_of p g) f) v) where
  abbrev F : Field
  F = field_of p g

  abbrev a : Element (field_values (field_of p g))
  a = (v, r.0)

  -- constants, as elements and as lists
  constants_are : (G : List (Element (residues p)))
      → map (underlying (field_values (field_of p g))) (map (of_residue p h g N) G)
      ≡ constants (field_of p g) (map (underlying (residues p)) G)
  constants_are G =
      map_map (underlying (field_values F)) (of_residue p h g N) (constant F) (underlying (residues p))
      (λ b. refl) G

  orbit_list : (d : ℕ) → map (underlying (field_values (field_of p g))) (orbit (ops p h g N) p d a)
      ≡ conjugates (field_values (field_of p g)).ops p d v
  orbit_list d =
      ap (map (underlying (field_values F))) (orbit_is (laws p h g N).ring p d a)
      ∙ map_twice (underlying (field_values F)) (λ i. frobenius (ops p h g N) p i a)
      (λ i. power (field_values F).ops v (p ^ i)) (λ i. power_value p h g N a (p ^ i))
      (range_with_len 0 d)

  splits : constants (field_of p g) f ≡ linear_product (field_values (field_of p g)).ops
      (conjugates (field_values (field_of p g)).ops p (degree_of (field_of p f)) v)
  splits =
      ap (constants F) (sym (elements_are (residues p) f M.irreducible.polynomial.0))
      ∙ sym (constants_are (coefficients (residues p) (modulus p h f M)))
      ∙ ap (map (underlying (field_values F)))
      (root_polynomial (residues_propositional p) (prime_residues_field p h) (residues_finite p h)
      (finite p h g N) (of_residue_homomorphism p h g N) (modulus p h f M) M.monic M.irreducible a
      (root_from p h f M g N v r)
      ∙ ap (λ q. linear_product (ops p h g N) (orbit (ops p h g N) q (degree_of (field_of p f)) a))
      (pow_one p))
      ∙ linear_product-map (underlying_homomorphism (field_is p h g N).ring)
      (orbit (ops p h g N) p (degree_of (field_of p f)) a)
      ∙ ap (linear_product (field_values F).ops) (orbit_list (degree_of (field_of p f)))

  remainder_value : (k : List ℕ) → IsPolynomial (residues p) k
      → evaluate (field_values (field_of p g)).ops
      (constants (field_of p g) (remainder (mod_ops p) f k)) v
      ≡ evaluate (field_values (field_of p g)).ops (constants (field_of p g) k) v
  remainder_value k w =
      ap (λ l. evaluate (field_values F).ops (constants F l) v)
      (sym (elements_are (residues p) x.0 x.1.0))
      ∙ ap (λ l. evaluate (field_values F).ops l v)
      (sym (constants_are (elements (residues p) x.0 x.1.0)))
      ∙ sym (evaluate-map (underlying_homomorphism (field_is p h g N).ring)
      (map (of_residue p h g N) (elements (residues p) x.0 x.1.0)) a)
      ∙ ap (λ y. y.0)
      (RootMaps.value_of_remainder (residues_propositional p) (prime_residues_field p h) (modulus p h f M)
      M.irreducible.not_constant M.monic (laws p h g N) (of_residue_homomorphism p h g N) a
      (root_from p h f M g N v r) (k, w))
      ∙ evaluate_constants p h g N (k, w) a
    where
      x : Element (field_values (field_of p f))
      x = Values.remainder_element (residues_propositional p) (prime_residues_field p h) (modulus p h f M)
          M.irreducible.not_constant M.monic (k, w)

module _ (E F : Field) (V : IsFiniteField E) (W : IsFiniteField F)
    (e : E.characteristic ≡ F.characteristic) (v : List ℕ)
    (r : IsRoot F (constants F E.polynomial) v) where
  -- **the polynomial of E is the product of x - w over the orbit of a root v in F**
  pub polynomial_splits : constants F E.polynomial ≡ linear_product (field_values F).ops
      (conjugates (field_values F).ops F.characteristic (degree_of E) v)
  polynomial_splits = of_two_fields
      (λ E F. IsRoot F (constants F E.polynomial) v
      → constants F E.polynomial ≡ linear_product (field_values F).ops
      (conjugates (field_values F).ops F.characteristic (degree_of E) v))
      (λ p h f M g N r. splits p h f M g N v r) E F V W e r

  -- **a polynomial over the prime field and its remainder by that of E have one value at v**
  pub remainder_at_root : (k : List ℕ) → IsPolynomial (residues E.characteristic) k
      → evaluate (field_values F).ops
      (constants F (remainder (mod_ops E.characteristic) E.polynomial k)) v
      ≡ evaluate (field_values F).ops (constants F k) v
  remainder_at_root k w = of_two_fields
      (λ E F. IsRoot F (constants F E.polynomial) v → IsPolynomial (residues E.characteristic) k
      → evaluate (field_values F).ops
      (constants F (remainder (mod_ops E.characteristic) E.polynomial k)) v
      ≡ evaluate (field_values F).ops (constants F k) v)
      (λ p h f M g N r w. remainder_value p h f M g N v r k w) E F V W e r w
