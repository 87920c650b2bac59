-- Polynomials over a finite field F whose roots are the values to which the generator of a field E
-- may be sent; and common roots by greatest common divisors.
use Rattle.std.proofs.Common.{◌≡◌, ◌↔◌, ℕ, List, [], ◌∷◌, map, refl, ap, ap₂, sym, ◌∙◌, subst, All}
use Rattle.std.proofs.lemmas.List.Elements.{All-cons, All-nil}
use Rattle.alg_model.specs.Coefficients.{Carrier, mod_ops, residues, IsPrime}
use Rattle.alg_model.specs.Polynomials.{trim, poly_negative, poly_difference, evaluate}
use Rattle.alg_model.specs.Factors.{IsPolynomial, IsGreatestCommonDivisor}
use Rattle.alg_model.specs.Fields.{IsRing, IsField}
use Rattle.alg_model.specs.Maps.{Field, IsFiniteField, field_values, degree_of, generator, constant, constants, apply, powers, IsEmbedding}
use Rattle.alg_model.specs.Roots.{IsRoot}
use Rattle.alg_model.specs.Candidates.{map_sending}
use Rattle.alg_rings.specs.Laws.{IsPropositional}
use Rattle.alg_rings.proofs.Rings
use Rattle.alg_rings.proofs.Evaluation
use Rattle.alg_rings.proofs.Homomorphisms.{evaluate-map, trim-map, poly_difference-map}
use Rattle.alg_rings.proofs.Elements.{Element, underlying, element_ops, element_laws, underlying_injective, underlying_homomorphism, elements_are, underlying_valid, on_valid}
use Rattle.alg_rings.proofs.CarrierPolynomials.{trimmed_from_leading, trimmed_elements}
use Rattle.alg_rings.proofs.ResidueFields.{prime_residues_field, residues_propositional}
use Rattle.alg_rings.proofs.Divisors.{divides_transitive}
use Rattle.alg_fields.specs.Fixed.{less_constant}
use Rattle.alg_fields.proofs.Roots.{linear}
use Rattle.alg_fields.proofs.OnCarriers.{root_iff_divides}
use Rattle.alg_galois.proofs.Fields.{IsModulus, modulus_of, field_of, map_map, field_is, of_residue, of_residue_homomorphism, propositional}
use Rattle.alg_galois.proofs.FieldEmbeddings.{digits_of, apply_powers}
use Rattle.alg_galois.proofs.Embeddings.{of_two_fields, embedding_is_powers_of_image}
use Rattle.alg_choices.specs.Restrictions.{prescription, IsPrescription}

-- ---- over any carrier
module _ {A : Type 0} {c : Carrier A} (P : IsPropositional c) (R : IsRing c) where
  -- the value of f - b is zero exactly where that of f is b
  pub value_less_constant : (f : List A) → All c.Valid f → (b v : A) → c.Valid b → c.Valid v
      → (evaluate c.ops (less_constant c.ops (trim c.ops f) b) v ≡ c.ops.zero)
      ↔ (evaluate c.ops f v ≡ b)
  value_less_constant f valid b v vb vv = on_valid c
      (λ f. (evaluate c.ops (less_constant c.ops (trim c.ops f) b) v ≡ c.ops.zero)
      ↔ (evaluate c.ops f v ≡ b)) at f valid
    where
      x : Element c
      x = (v, vv)

      y : Element c
      y = (b, vb)

      value : (G : List (Element c))
          → evaluate (element_ops R) (less_constant (element_ops R) (trim (element_ops R) G) y) x
          ≡ (element_ops R).add (evaluate (element_ops R) G x) ((element_ops R).neg y)
      value G =
          Evaluation.value_of_trim (element_laws P R) _ x
          ∙ Evaluation.value_of_sum (element_laws P R) (trim (element_ops R) G)
          (poly_negative (element_ops R) (trim (element_ops R) (y ∷ []))) x
          ∙ ap₂ (element_ops R).add (Evaluation.value_of_trim (element_laws P R) G x)
          (Evaluation.value_of_negatives (element_laws P R) (trim (element_ops R) (y ∷ [])) x
          ∙ ap (element_ops R).neg (Evaluation.value_of_trim (element_laws P R) (y ∷ []) x
          ∙ Evaluation.value_of_constant (element_laws P R) y x))

      lists : (G : List (Element c))
          → evaluate c.ops (less_constant c.ops (trim c.ops (map (underlying c) G)) b) v
          ≡ (evaluate (element_ops R)
          (less_constant (element_ops R) (trim (element_ops R) G) y) x).0
      lists G = sym (evaluate-map (underlying_homomorphism R)
          (less_constant (element_ops R) (trim (element_ops R) G) y) x
          ∙ ap (λ w. evaluate c.ops w v)
          (poly_difference-map (underlying_homomorphism R) (trim (element_ops R) G) (trim (element_ops R) (y ∷ []))
          ∙ ap₂ (poly_difference c.ops) (trim-map (underlying_homomorphism R) G)
          (trim-map (underlying_homomorphism R) (y ∷ []))))

      at : (G : List (Element c))
          → (evaluate c.ops (less_constant c.ops (trim c.ops (map (underlying c) G)) b) v
          ≡ c.ops.zero)
          ↔ (evaluate c.ops (map (underlying c) G) v ≡ b)
      at G = (
        λ e. sym (evaluate-map (underlying_homomorphism R) G x)
            ∙ ap (underlying c) (Rings.same_from_difference (element_laws P R) (evaluate (element_ops R) G x) y
            (sym (value G) ∙ underlying_injective P _ _ (sym (lists G) ∙ e))),
        λ e. lists G ∙ ap (underlying c) (value G
            ∙ ap (λ w. (element_ops R).add w ((element_ops R).neg y))
            (underlying_injective P (evaluate (element_ops R) G x) y (evaluate-map (underlying_homomorphism R) G x ∙ e))
            ∙ (element_laws P R).add_neg y),
      )

  -- x - a is a polynomial
  linear_polynomial : IsField c → (a : A) → c.Valid a → IsPolynomial c (linear c.ops a)
  linear_polynomial K a va =
      let valid : All c.Valid (linear c.ops a) =
      All-cons c.Valid (c.ops.neg a) (c.ops.one ∷ []) (R.neg_valid a va)
      (All-cons c.Valid c.ops.one [] R.one_valid (All-nil c.Valid)) in
      (valid, trimmed_from_leading P R (linear c.ops a) valid K.one_not_zero)

  -- **the roots of a greatest common divisor are the common roots**
  pub gcd_roots : IsField c → (a b g : List A) → IsPolynomial c a → IsPolynomial c b
      → IsGreatestCommonDivisor c a b g → (v : A) → c.Valid v
      → (evaluate c.ops g v ≡ c.ops.zero)
      ↔ ((evaluate c.ops a v ≡ c.ops.zero) × (evaluate c.ops b v ≡ c.ops.zero))
  gcd_roots K a b g va vb d v vv = (
    λ e.
        let h = (root_iff_divides P R g v d.polynomial vv).0 e in (
          (root_iff_divides P R a v va vv).1 (divides_transitive P R (linear c.ops v) g a (linear_polynomial K v vv) h d.divides_first),
          (root_iff_divides P R b v vb vv).1 (divides_transitive P R (linear c.ops v) g b (linear_polynomial K v vv) h d.divides_second),
        ),
    λ (e, f). (root_iff_divides P R g v d.polynomial vv).1 (d.greatest (linear c.ops v) (linear_polynomial K v vv)
        ((root_iff_divides P R a v va vv).0 e) ((root_iff_divides P R b v vb vv).0 f)),
  )

-- ---- finite fields
-- the values of a finite field are a field, and valid in one way
pub finite_propositional : (F : Field) → IsFiniteField F → IsPropositional (field_values F)
finite_propositional F W = propositional F.characteristic W.characteristic F.polynomial (modulus_of F W)

pub finite_is_field : (F : Field) → IsFiniteField F → IsField (field_values F)
finite_is_field F W = field_is F.characteristic W.characteristic F.polynomial (modulus_of F W)

-- **the roots of a greatest common divisor over a finite field are the common roots**
pub common_roots : (F : Field) → IsFiniteField F → (a b g : List (List ℕ))
    → IsPolynomial (field_values F) a → IsPolynomial (field_values F) b
    → IsGreatestCommonDivisor (field_values F) a b g → (v : List ℕ)
    → IsRoot F g v ↔ (IsRoot F a v × IsRoot F b v)
common_roots F W a b g va vb d v = (
  λ (valid, e).
      let (p, q) = (gcd_roots (finite_propositional F W) (finite_is_field F W).ring (finite_is_field F W) a b g va vb d v valid).0 e in
      ((valid, p), (valid, q)),
  λ ((valid, p), (_, q)).
      (valid, (gcd_roots (finite_propositional F W) (finite_is_field F W).ring (finite_is_field F W) a b g va vb d v valid).1 (p, q)),
)

module _ (p : ℕ) (h : IsPrime p) (f : List ℕ) (M : IsModulus p f) (g : List ℕ)
    (N : IsModulus p g) where
  value_at : (v : Element (field_values (field_of p g)))
      (a : Element (field_values (field_of p f)))
      → apply (field_of p g) (powers (field_of p g) v.0 (degree_of (field_of p f))) a.0
      ≡ evaluate (field_values (field_of p g)).ops (constants (field_of p g) a.0) v.0
  value_at v a =
      apply_powers p h f M g N v a
      ∙ evaluate-map (underlying_homomorphism (field_is p h g N).ring) (map (of_residue p h g N) (digits_of p h f M a)) v
      ∙ ap (λ w. evaluate (field_values (field_of p g)).ops w v.0)
      (map_map (underlying (field_values (field_of p g))) (of_residue p h g N) (constant (field_of p g)) (underlying (residues p))
      (λ b. refl) (digits_of p h f M a)
      ∙ ap (constants (field_of p g)) (elements_are (residues p) a.0 a.1.0))

  constants_are_values : (a : List ℕ) → All (residues p).Valid a
      → All (field_values (field_of p g)).Valid (constants (field_of p g) a)
  constants_are_values = on_valid (residues p)
      (λ a. All (field_values (field_of p g)).Valid (constants (field_of p g) a))
      (λ G. subst (All (field_values (field_of p g)).Valid)
      (map_map (underlying (field_values (field_of p g))) (of_residue p h g N) (constant (field_of p g)) (underlying (residues p)) (λ b. refl) G)
      (underlying_valid (field_values (field_of p g)) (map (of_residue p h g N) G)))

  constants_are_polynomials : (k : List ℕ) → IsPolynomial (residues p) k
      → IsPolynomial (field_values (field_of p g)) (constants (field_of p g) k)
  constants_are_polynomials k w = (
    constants_are_values k w.0,
    on_valid (residues p)
        (λ k. trim (mod_ops p) k ≡ k
        → trim (field_values (field_of p g)).ops (constants (field_of p g) k) ≡ constants (field_of p g) k)
        at k w.0 w.1,
  )
    where
      at : (G : List (Element (residues p)))
          → trim (mod_ops p) (map (underlying (residues p)) G) ≡ map (underlying (residues p)) G
          → trim (field_values (field_of p g)).ops
          (constants (field_of p g) (map (underlying (residues p)) G))
          ≡ constants (field_of p g) (map (underlying (residues p)) G)
      at G t =
          let same : map (underlying (field_values (field_of p g))) (map (of_residue p h g N) G)
          ≡ constants (field_of p g) (map (underlying (residues p)) G) =
          map_map (underlying (field_values (field_of p g))) (of_residue p h g N) (constant (field_of p g))
          (underlying (residues p)) (λ b. refl) G in
          ap (trim (field_values (field_of p g)).ops) (sym same)
          ∙ sym (trim-map (underlying_homomorphism (field_is p h g N).ring) (map (of_residue p h g N) G))
          ∙ ap (map (underlying (field_values (field_of p g))))
          (sym (trim-map (of_residue_homomorphism p h g N) G)
          ∙ ap (map (of_residue p h g N))
          (trimmed_elements (residues_propositional p) (prime_residues_field p h).ring G t))
          ∙ same

-- the map of a field of degree 1 sends one to one, and there is no other
pub embedding_of_degree_one : (E F : Field) → IsFiniteField E → IsFiniteField F → degree_of E ≡ 1
    → (m : List (List ℕ)) → IsEmbedding E F m → m ≡ (field_values F).ops.one ∷ []
embedding_of_degree_one E F V W d m D =
    embedding_is_powers_of_image E F V W m D ∙ ap (powers F (apply F m (generator E))) d

module _ (E F : Field) (V : IsFiniteField E) (W : IsFiniteField F)
    (same : E.characteristic ≡ F.characteristic) where
  -- **the map that sends the generator to v gives the value at v of a's digits as coefficients**
  pub image_is_value : (v : List ℕ) → (field_values F).Valid v → (a : List ℕ)
      → (field_values E).Valid a
      → apply F (map_sending E F v) a ≡ evaluate (field_values F).ops (constants F a) v
  image_is_value v vv a va = of_two_fields
      (λ E F. (v : List ℕ) → (field_values F).Valid v → (a : List ℕ) → (field_values E).Valid a
      → apply F (map_sending E F v) a ≡ evaluate (field_values F).ops (constants F a) v)
      (λ p h f M g N v vv a va. value_at p h f M g N (v, vv) (a, va)) E F V W same v vv a va

  -- digits as coefficients are values
  pub constants_valid : (a : List ℕ) → (field_values E).Valid a
      → All (field_values F).Valid (constants F a)
  constants_valid = of_two_fields
      (λ E F. (a : List ℕ) → (field_values E).Valid a → All (field_values F).Valid (constants F a))
      (λ p h f M g N a va. constants_are_values p h f M g N a va.0) E F V W same

  -- **the digits of a as coefficients, less b, are zero exactly where a is sent to b**
  pub prescription_is : (a b : List ℕ) → (field_values E).Valid a → (field_values F).Valid b
      → IsPrescription E F a b (prescription F a b)
  prescription_is a b va vb = record {
    exactly = λ v vv.
        let value = image_is_value v vv a va in
        let zeros = value_less_constant (finite_propositional F W) (finite_is_field F W).ring
        (constants F a) (constants_valid a va) b v vb vv in
        (λ e. value ∙ zeros.0 e, λ e. zeros.1 (sym value ∙ e));
  }

  -- **the polynomial of E is one over F**
  pub source_polynomial : IsPolynomial (field_values F) (constants F E.polynomial)
  source_polynomial = of_two_fields
      (λ E F. IsPolynomial (residues E.characteristic) E.polynomial
      → IsPolynomial (field_values F) (constants F E.polynomial))
      (λ p h f M g N w. constants_are_polynomials p h f M g N f w) E F V W same
      V.irreducible.polynomial
