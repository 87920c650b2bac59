-- Embeddings of finite fields and roots: an embedding exists where degrees divide, one for each
-- root; two differ by a power of
-- Frobenius; images are what a power of Frobenius fixes.
use Rattle.std.proofs.Common.{◌≡◌, ◌↔◌, ℕ, ◌%◌, ◌^◌, ◌<◌, List, [], ◌∷◌, refl, ap, ap₂, sym, ◌∙◌, subst, Ordering, Less, Equal, Greater, nat_cmp, ◌+◌, add_comm}
use Rattle.std.specs.Ordering.{ordering_reverse}
use Rattle.std.proofs.lemmas.Cmp.{nat_cmp_total, on_total}
use Rattle.std.proofs.lemmas.Bool.{cases_eq}
use Rattle.std.proofs.lemmas.Nat.Gcd.{dvd_of_mod-eq-zero, mod-eq-zero_of_dvd}
use Rattle.std.proofs.Math.Nat.{mod-one}
use Prim.Native.Nat.{◌∣◌}
use Rattle.alg_model.specs.Coefficients.{Ops, power, residues, IsPrime}
use Rattle.alg_model.specs.Polynomials.{evaluate}
use Rattle.alg_model.specs.Factors.{IsPolynomial, order_by}
use Rattle.alg_model.specs.Maps.{Field, IsFiniteField, field_values, degree_of, generator, constants, apply, comp, identity_map, powers, frobenius_map, IsEmbedding}
use Rattle.alg_model.specs.Roots.{IsRoot, IsLeastRoot}
use Rattle.alg_rings.proofs.Elements.{Element, underlying_injective}
use Rattle.alg_rings.proofs.Decisions.{lists_equal_or_not}
use Rattle.alg_rings.proofs.Homomorphisms.{power-map}
use Rattle.alg_rings.proofs.PolynomialOrder.{order_by_total, order_by_same, nat_cmp_same}
use Rattle.alg_finite.proofs.FiniteField.{frobenius, frobenius_none, frobenius_add}
use Rattle.alg_finite.proofs.Evaluation.{coefficients, evaluate_by}
use Rattle.alg_finite.proofs.LeastMembers.{least_member}
use Rattle.alg_galois.proofs.Fields.{IsModulus, modulus_of, field_of, modulus, propositional, ops, of_residue, evaluate_constants, power_value, finite, laws}
use Rattle.alg_galois.proofs.FieldEmbeddings.{function_of, function_homomorphism, generator_image, generator_element, keeps_values, root_embedding, apply_root_embedding}
use Rattle.alg_galois.proofs.FieldFrobenius
use Rattle.alg_galois.proofs.Embeddings.{of_two_fields, identity_embedding, apply_identity, frobenius_embedding, apply_frobenius, apply_valid, embedding_injective, embedding_is_powers_of_image, embeddings_equal, generator_is_value, comp_embedding, apply_comp}

-- ---- least roots
-- **where there is a root, there is a least one**
pub least_root_exists : (F : Field) → IsFiniteField F → (g : List (List ℕ)) (w : List ℕ)
    → IsRoot F g w → (v : List ℕ) × IsLeastRoot F g v
least_root_exists F W g w r =
    let a : (a : Element (field_values F))
    × (evaluate (field_values F).ops g a.0 ≡ (field_values F).ops.zero)
    × ((c : Element (field_values F))
    → evaluate (field_values F).ops g c.0 ≡ (field_values F).ops.zero
    → order_by nat_cmp c.0 a.0 ≡ Less → ⊥) =
    least_member (finite F.characteristic W.characteristic F.polynomial (modulus_of F W)).members
    (on_total (λ a. a.0) (order_by_total nat_cmp_total))
    (λ a. evaluate (field_values F).ops g a.0 ≡ (field_values F).ops.zero)
    (λ a. lists_equal_or_not cases_eq _ _) (w, r.0) r.1 in
    (a.0.0, record { root = (a.0.1, a.1); least = λ u s b. a.2 (u, s.0) s.1 b })

-- and it is the only one
pub least_root_unique : (F : Field) (g : List (List ℕ)) (v w : List ℕ) → IsLeastRoot F g v
    → IsLeastRoot F g w → v ≡ w
least_root_unique F g v w k l = compared (order_by nat_cmp v w) refl
  where
    compared : (r : Ordering) → order_by nat_cmp v w ≡ r → v ≡ w
    compared Less e = absurd (l.least v k.root e)
    compared Equal e = order_by_same nat_cmp_same v w e
    compared Greater e = absurd
        (k.least w l.root ((order_by_total nat_cmp_total).antisymm w v ∙ ap ordering_reverse e))

-- ---- roots of the polynomial of E in F
module _ (p : ℕ) (h : IsPrime p) (f : List ℕ) (M : IsModulus p f) (g : List ℕ)
    (N : IsModulus p g) where
  -- the polynomial of E is zero at v
  abbrev pub IsZero : Element (field_values (field_of p g)) → Type 0
  IsZero v = evaluate_by (residues p) (of_residue p h g N) (ops p h g N) (modulus p h f M) v
      ≡ (ops p h g N).zero

  -- a root as an element, and as a list
  pub root_to : (v : Element (field_values (field_of p g))) → IsZero v
      → IsRoot (field_of p g) (constants (field_of p g) f) v.0
  root_to v e = (v.1, sym (evaluate_constants p h g N (modulus p h f M) v) ∙ ap (λ y. y.0) e)

  -- and back
  pub root_from : (v : List ℕ) (r : IsRoot (field_of p g) (constants (field_of p g) f) v)
      → IsZero (v, r.0)
  root_from v r = underlying_injective (propositional p h g N) _ _
      (evaluate_constants p h g N (modulus p h f M) (v, r.0) ∙ r.1)

module _ (E F : Field) (V : IsFiniteField E) (W : IsFiniteField F) where
  -- **a root exists where the degree of E divides that of F**
  pub root_exists : E.characteristic ≡ F.characteristic → degree_of E ∣ degree_of F
      → (v : List ℕ) × IsRoot F (constants F E.polynomial) v
  root_exists e d = of_two_fields
      (λ E F. degree_of E ∣ degree_of F → (v : List ℕ) × IsRoot F (constants F E.polynomial) v)
      (λ p h f M g N d. let v =
      FieldFrobenius.field_root_exists p h f M g N
      (mod-eq-zero_of_dvd (degree_of (field_of p f)) d) in
      (v.0.0, root_to p h f M g N v.0 v.1)) E F V W e d

  -- and a least one
  pub least_root_where_divides : E.characteristic ≡ F.characteristic → degree_of E ∣ degree_of F
      → (v : List ℕ) × IsLeastRoot F (constants F E.polynomial) v
  least_root_where_divides e d = let v : (v : List ℕ) × IsRoot F (constants F E.polynomial) v =
      root_exists e d in
      least_root_exists F W (constants F E.polynomial) v.0 v.1

  -- **and only there**
  pub root_degree_divides : E.characteristic ≡ F.characteristic → (v : List ℕ)
      → IsRoot F (constants F E.polynomial) v → degree_of E ∣ degree_of F
  root_degree_divides e v r =
      of_two_fields (λ E F. IsRoot F (constants F E.polynomial) v → degree_of E ∣ degree_of F)
      (λ p h f M g N r. dvd_of_mod-eq-zero (degree_of (field_of p f))
      (FieldFrobenius.field_degree_divides p h f M g N (v, r.0) (root_from p h f M g N v r))) E F V
      W e r

  -- **all roots are powers of Frobenius of one**
  pub roots_are_powers : E.characteristic ≡ F.characteristic → (v w : List ℕ)
      → IsRoot F (constants F E.polynomial) v → IsRoot F (constants F E.polynomial) w
      → (t : ℕ) × (t < degree_of E) × (power (field_values F).ops v (F.characteristic ^ t) ≡ w)
  roots_are_powers e v w r s =
      of_two_fields (λ E F. IsRoot F (constants F E.polynomial) v
      → IsRoot F (constants F E.polynomial) w
      → (t : ℕ) × (t < degree_of E) × (power (field_values F).ops v (F.characteristic ^ t) ≡ w))
      (λ p h f M g N r s.
      let t : (t : ℕ) × (t < degree_of (field_of p f))
      × (frobenius (ops p h g N) p t (v, r.0) ≡ (w, s.0)) =
      FieldFrobenius.field_roots_are_orbit p h f M g N (v, r.0) (root_from p h f M g N v r) (w, s.0)
      (root_from p h f M g N w s) in
      (t.0, t.1, sym (power_value p h g N (v, r.0) (p ^ t.0)) ∙ ap (λ y. y.0) t.2)) E F V W e r s

  -- **which agree exactly if they agree modulo the degree**
  pub root_powers_agree : E.characteristic ≡ F.characteristic → (v : List ℕ)
      → IsRoot F (constants F E.polynomial) v → (s t : ℕ)
      → (power (field_values F).ops v (F.characteristic ^ s)
      ≡ power (field_values F).ops v (F.characteristic ^ t)) ↔ (s % degree_of E ≡ t % degree_of E)
  root_powers_agree e v r s t = of_two_fields (λ E F. IsRoot F (constants F E.polynomial) v
      → (power (field_values F).ops v (F.characteristic ^ s)
      ≡ power (field_values F).ops v (F.characteristic ^ t)) ↔ (s % degree_of E ≡ t % degree_of E))
      (λ p h f M g N r. (
        λ q. FieldFrobenius.powers_agree_on_root p h f M g N (v, r.0)
            (root_from p h f M g N v r) s t
            (underlying_injective (propositional p h g N) _ _
            (power_value p h g N (v, r.0) (p ^ s) ∙ q
            ∙ sym (power_value p h g N (v, r.0) (p ^ t)))),
        λ q. sym (power_value p h g N (v, r.0) (p ^ s))
            ∙ ap (λ y. y.0) (FieldFrobenius.same_powers_on_root p h f M g N (v, r.0)
            (root_from p h f M g N v r) s t q)
            ∙ power_value p h g N (v, r.0) (p ^ t),
      ))
      E F V W e r

  -- **a root gives an embedding, its powers, that sends the generator to it**
  pub embedding_of_root : E.characteristic ≡ F.characteristic → (v : List ℕ)
      → IsRoot F (constants F E.polynomial) v
      → IsEmbedding E F (powers F v (degree_of E))
      × (apply F (powers F v (degree_of E)) (generator E) ≡ v)
  embedding_of_root e v r = of_two_fields (λ E F. IsRoot F (constants F E.polynomial) v
      → IsEmbedding E F (powers F v (degree_of E))
      × (apply F (powers F v (degree_of E)) (generator E) ≡ v))
      (λ p h f M g N r. (
        root_embedding p h f M g N (v, r.0) (root_from p h f M g N v r),
        apply_root_embedding p h f M g N (v, r.0) (root_from p h f M g N v r),
      ))
      E F V W e r

  -- **the list of one alone is the embedding of a field of degree 1**
  pub embedding_of_prime_field : E.characteristic ≡ F.characteristic → degree_of E ≡ 1
      → IsEmbedding E F ((field_values F).ops.one ∷ [])
  embedding_of_prime_field e d =
      let v : (v : List ℕ) × IsRoot F (constants F E.polynomial) v =
      root_exists e (dvd_of_mod-eq-zero (degree_of E)
      (ap (λ n. degree_of F % n) d ∙ mod-one (degree_of F))) in
      subst (IsEmbedding E F) (ap (powers F v.0) d) (embedding_of_root e v.0 v.1).0

  module _ (m : List (List ℕ)) (D : IsEmbedding E F m) where
    -- **the image of the generator is a root**
    pub generator_image_root : IsRoot F (constants F E.polynomial) (apply F m (generator E))
    generator_image_root = of_two_fields
        (λ E F. IsEmbedding E F m → IsRoot F (constants F E.polynomial) (apply F m (generator E)))
        (λ p h f M g N D. root_to p h f M g N
        (function_of p h f M g N m D (generator_element p h f M))
        (generator_image p h f M g N (function_homomorphism p h f M g N m D)))
        E F V W D.same_characteristic D

    -- **so degrees divide**
    pub embedding_degree_divides : degree_of E ∣ degree_of F
    embedding_degree_divides =
        root_degree_divides D.same_characteristic (apply F m (generator E)) generator_image_root

    -- **an embedding keeps the values of polynomials over the prime field**
    pub apply_value_at : (g : List ℕ) → IsPolynomial (residues E.characteristic) g → (a : List ℕ)
        → (field_values E).Valid a
        → apply F m (evaluate (field_values E).ops (constants E g) a)
        ≡ evaluate (field_values F).ops (constants F g) (apply F m a)
    apply_value_at q k a va =
        of_two_fields (λ E F. IsEmbedding E F m → IsPolynomial (residues E.characteristic) q
        → (field_values E).Valid a
        → apply F m (evaluate (field_values E).ops (constants E q) a)
        ≡ evaluate (field_values F).ops (constants F q) (apply F m a))
        (λ p h f M g N D k va.
        ap (apply (field_of p g) m) (sym (evaluate_constants p h f M (q, k) (a, va)))
        ∙ ap (λ y. y.0) (keeps_values p h f M g N (function_homomorphism p h f M g N m D)
        (coefficients (residues p) (q, k)) (a, va))
        ∙ evaluate_constants p h g N (q, k) (function_of p h f M g N m D (a, va)))
        E F V W D.same_characteristic D k va

    -- an embedding keeps zero
    pub zero_kept : apply F m (field_values E).ops.zero ≡ (field_values F).ops.zero
    zero_kept = of_two_fields
        (λ E F. IsEmbedding E F m → apply F m (field_values E).ops.zero ≡ (field_values F).ops.zero)
        (λ p h f M g N D. ap (λ y. y.0) (function_homomorphism p h f M g N m D).zero) E F V W
        D.same_characteristic D

    -- **the image of a root is a root**
    pub root_to_image : (g : List ℕ) → IsPolynomial (residues E.characteristic) g → (a : List ℕ)
        → IsRoot E (constants E g) a → IsRoot F (constants F g) (apply F m a)
    root_to_image q k a r = (
      apply_valid E F V W m D a r.0,
      sym (apply_value_at q k a r.0) ∙ ap (apply F m) r.1 ∙ zero_kept,
    )

    -- **and only that of a root**
    pub root_from_image : (g : List ℕ) → IsPolynomial (residues E.characteristic) g → (a : List ℕ)
        → (field_values E).Valid a
        → IsRoot F (constants F g) (apply F m a) → IsRoot E (constants E g) a
    root_from_image q k a va r =
        let z : Element (field_values E) =
        evaluate_by (residues E.characteristic)
        (of_residue E.characteristic V.characteristic E.polynomial (modulus_of E V))
        (ops E.characteristic V.characteristic E.polynomial (modulus_of E V)) (q, k) (a, va) in
        let s : z.0 ≡ evaluate (field_values E).ops (constants E q) a =
        evaluate_constants E.characteristic V.characteristic E.polynomial (modulus_of E V) (q, k)
        (a, va) in (
          va,
          embedding_injective E F V W m D _ _ (subst (field_values E).Valid s z.1)
              (ops E.characteristic V.characteristic E.polynomial (modulus_of E V)).zero.1
              (apply_value_at q k a va ∙ r.1 ∙ sym zero_kept),
        )

    -- **an embedding keeps powers**
    pub apply_power : (a : List ℕ) → (field_values E).Valid a → (n : ℕ)
        → apply F m (power (field_values E).ops a n) ≡ power (field_values F).ops (apply F m a) n
    apply_power a va n = of_two_fields (λ E F. IsEmbedding E F m → (field_values E).Valid a
        → apply F m (power (field_values E).ops a n) ≡ power (field_values F).ops (apply F m a) n)
        (λ p h f M g N D va. ap (apply (field_of p g) m) (sym (power_value p h f M (a, va) n))
        ∙ ap (λ y. y.0) (power-map (function_homomorphism p h f M g N m D) (a, va) n)
        ∙ power_value p h g N (function_of p h f M g N m D (a, va)) n)
        E F V W D.same_characteristic D va

    -- **an image is fixed by a -> a^(p^n), where n is the degree of E**
    pub image_fixed : (a : List ℕ) → (field_values E).Valid a
        → power (field_values F).ops (apply F m a) (F.characteristic ^ degree_of E) ≡ apply F m a
    image_fixed a va = of_two_fields (λ E F. IsEmbedding E F m → (field_values E).Valid a
        → power (field_values F).ops (apply F m a) (F.characteristic ^ degree_of E) ≡ apply F m a)
        (λ p h f M g N D va. sym
        (power_value p h g N (function_of p h f M g N m D (a, va)) (p ^ degree_of (field_of p f)))
        ∙ ap (λ y. y.0) (FieldFrobenius.image_returns p h f M g N
        (function_homomorphism p h f M g N m D) (a, va)))
        E F V W D.same_characteristic D va

    -- **and each value so fixed is an image**
    pub fixed_is_image : (b : List ℕ) → (field_values F).Valid b
        → power (field_values F).ops b (F.characteristic ^ degree_of E) ≡ b
        → (a : List ℕ) × (field_values E).Valid a × (apply F m a ≡ b)
    fixed_is_image b vb e = of_two_fields
        (λ E F. IsEmbedding E F m → (field_values F).Valid b
        → power (field_values F).ops b (F.characteristic ^ degree_of E) ≡ b
        → (a : List ℕ) × (field_values E).Valid a × (apply F m a ≡ b))
        (λ p h f M g N D vb e.
        let a : (a : Element (field_values (field_of p f)))
        × (function_of p h f M g N m D a ≡ (b, vb)) =
        FieldFrobenius.returning_is_image p h f M g N (function_homomorphism p h f M g N m D)
        (b, vb)
        (underlying_injective (propositional p h g N) _ _
        (power_value p h g N (b, vb) (p ^ degree_of (field_of p f)) ∙ e)) in
        (a.0.0, a.0.1, ap (λ y. y.0) a.1))
        E F V W D.same_characteristic D vb e

  module _ (m : List (List ℕ)) (D : IsEmbedding E F m) where
    -- a power of Frobenius after an embedding
    pub after_frobenius_embedding : (t : ℕ) → IsEmbedding E F (comp F m (frobenius_map F t))
    after_frobenius_embedding t =
        comp_embedding E F F V W W m (frobenius_map F t) D (frobenius_embedding F W t)

    -- which sends a to the power p^t of its image
    pub apply_after_frobenius : (t : ℕ) (a : List ℕ) → (field_values E).Valid a
        → apply F (comp F m (frobenius_map F t)) a
        ≡ power (field_values F).ops (apply F m a) (F.characteristic ^ t)
    apply_after_frobenius t a va =
        apply_comp E F F V W W m (frobenius_map F t) D (frobenius_embedding F W t) a va
        ∙ apply_frobenius F W t (apply F m a) (apply_valid E F V W m D a va)

    -- **two embeddings differ by a power of Frobenius**
    pub embeddings_differ : (n : List (List ℕ)) → IsEmbedding E F n
        → (t : ℕ) × (t < degree_of E) × (n ≡ comp F m (frobenius_map F t))
    embeddings_differ n C =
        of_power (roots_are_powers D.same_characteristic (apply F m (generator E))
        (apply F n (generator E)) (generator_image_root m D) (generator_image_root n C))
      where
        of_power : (t : ℕ) × (t < degree_of E)
            × (power (field_values F).ops (apply F m (generator E)) (F.characteristic ^ t)
            ≡ apply F n (generator E))
            → (t : ℕ) × (t < degree_of E) × (n ≡ comp F m (frobenius_map F t))
        of_power t = (
          t.0,
          t.1,
          embedding_is_powers_of_image E F V W n C
              ∙ ap (λ v. powers F v (degree_of E))
              (sym t.2 ∙ sym (apply_after_frobenius t.0 (generator E) (generator_is_value E F V W)))
              ∙ sym (embedding_is_powers_of_image E F V W (comp F m (frobenius_map F t.0))
              (after_frobenius_embedding t.0)),
        )

    -- **powers of Frobenius after an embedding agree exactly if they agree modulo the degree**
    pub powers_after_embedding : (s t : ℕ)
        → (comp F m (frobenius_map F s) ≡ comp F m (frobenius_map F t))
        ↔ (s % degree_of E ≡ t % degree_of E)
    powers_after_embedding s t = (
      (λ e. (root_powers_agree D.same_characteristic (apply F m (generator E))
          (generator_image_root m D) s t).0
          (sym (apply_after_frobenius s (generator E) (generator_is_value E F V W))
          ∙ ap (λ c. apply F c (generator E)) e
          ∙ apply_after_frobenius t (generator E) (generator_is_value E F V W))),
      (λ e. embeddings_equal E F V W (comp F m (frobenius_map F s)) (comp F m (frobenius_map F t))
          (after_frobenius_embedding s) (after_frobenius_embedding t)
          (λ a va. apply_after_frobenius s a va ∙ agree s t e a va
          ∙ sym (apply_after_frobenius t a va))),
    )
      where
        agree : (s t : ℕ) → s % degree_of E ≡ t % degree_of E → (a : List ℕ)
            → (field_values E).Valid a
            → power (field_values F).ops (apply F m a) (F.characteristic ^ s)
            ≡ power (field_values F).ops (apply F m a) (F.characteristic ^ t)
        agree s t e a va = of_two_fields
            (λ E F. IsEmbedding E F m → s % degree_of E ≡ t % degree_of E → (field_values E).Valid a
            → power (field_values F).ops (apply F m a) (F.characteristic ^ s)
            ≡ power (field_values F).ops (apply F m a) (F.characteristic ^ t))
            (λ p h f M g N D e va. sym
            (power_value p h g N (function_of p h f M g N m D (a, va)) (p ^ s))
            ∙ ap (λ y. y.0) (FieldFrobenius.powers_agree p h f M g N
            (function_homomorphism p h f M g N m D) s t e (a, va))
            ∙ power_value p h g N (function_of p h f M g N m D (a, va)) (p ^ t))
            E F V W D.same_characteristic D e va

  -- **embeddings commute with powers of Frobenius**
  pub frobenius_commutes : (m : List (List ℕ)) → IsEmbedding E F m → (t : ℕ)
      → comp F (frobenius_map E t) m ≡ comp F m (frobenius_map F t)
  frobenius_commutes m D t =
      embeddings_equal E F V W (comp F (frobenius_map E t) m) (comp F m (frobenius_map F t))
      (comp_embedding E E F V V W (frobenius_map E t) m (frobenius_embedding E V t) D)
      (after_frobenius_embedding m D t)
      (λ a va. apply_comp E E F V V W (frobenius_map E t) m (frobenius_embedding E V t) D a va
      ∙ ap (apply F m) (apply_frobenius E V t a va) ∙ apply_power m D a va (E.characteristic ^ t)
      ∙ ap (λ q. power (field_values F).ops (apply F m a) (q ^ t)) D.same_characteristic
      ∙ sym (apply_after_frobenius m D t a va))

-- ---- powers of Frobenius on one field
module _ (F : Field) (W : IsFiniteField F) where
  abbrev O : Ops (Element (field_values F))
  O = ops F.characteristic W.characteristic F.polynomial (modulus_of F W)

  power_is : (a : List ℕ) (va : (field_values F).Valid a) (t : ℕ)
      → (frobenius O F.characteristic t (a, va)).0
      ≡ power (field_values F).ops a (F.characteristic ^ t)
  power_is a va t = power_value F.characteristic W.characteristic F.polynomial (modulus_of F W)
      (a, va) (F.characteristic ^ t)

  -- **powers of Frobenius send roots to roots**
  pub powers_are_roots : (f : List ℕ) → IsPolynomial (residues F.characteristic) f → (a : List ℕ)
      → IsRoot F (constants F f) a → (t : ℕ)
      → IsRoot F (constants F f) (power (field_values F).ops a (F.characteristic ^ t))
  powers_are_roots f k a r t = subst (IsRoot F (constants F f)) (apply_frobenius F W t a r.0)
      (root_to_image F F W W (frobenius_map F t) (frobenius_embedding F W t) f k a r)

  -- **they agree on the generator exactly if they agree modulo the degree**
  pub generator_powers_agree : (s t : ℕ)
      → (power (field_values F).ops (generator F) (F.characteristic ^ s)
      ≡ power (field_values F).ops (generator F) (F.characteristic ^ t))
      ↔ (s % degree_of F ≡ t % degree_of F)
  generator_powers_agree = root_powers_agree F F W W refl (generator F)
      (subst (IsRoot F (constants F F.polynomial))
      (apply_identity F W (generator F) (generator_is_value F F W W))
      (generator_image_root F F W W (identity_map F) (identity_embedding F W)))

  -- **the power 0 of Frobenius is the identity**
  pub frobenius_zero : frobenius_map F 0 ≡ identity_map F
  frobenius_zero = embeddings_equal F F W W (frobenius_map F 0) (identity_map F)
      (frobenius_embedding F W 0) (identity_embedding F W)
      (λ a va. apply_frobenius F W 0 a va ∙ sym (power_is a va 0)
      ∙ ap (λ y. y.0) (frobenius_none
      (laws F.characteristic W.characteristic F.polynomial (modulus_of F W)).ring F.characteristic
      (a, va)) ∙ sym (apply_identity F W a va))

  -- **one power of Frobenius after another is that of the sum**
  pub frobenius_sum : (s t : ℕ)
      → comp F (frobenius_map F s) (frobenius_map F t) ≡ frobenius_map F (s + t)
  frobenius_sum s t = embeddings_equal F F W W (comp F (frobenius_map F s) (frobenius_map F t))
      (frobenius_map F (s + t))
      (after_frobenius_embedding F F W W (frobenius_map F s) (frobenius_embedding F W s) t)
      (frobenius_embedding F W (s + t))
      (λ a va. apply_after_frobenius F F W W (frobenius_map F s) (frobenius_embedding F W s) t a va
      ∙ ap (λ y. power (field_values F).ops y (F.characteristic ^ t))
      (apply_frobenius F W s a va ∙ sym (power_is a va s))
      ∙ sym (power_value F.characteristic W.characteristic F.polynomial (modulus_of F W)
      (frobenius O F.characteristic s (a, va)) (F.characteristic ^ t))
      ∙ ap (λ y. y.0) (sym (frobenius_add
      (laws F.characteristic W.characteristic F.polynomial (modulus_of F W)).ring F.characteristic t
      s (a, va)))
      ∙ ap (λ i. (frobenius O F.characteristic i (a, va)).0) (add_comm t s)
      ∙ power_is a va (s + t) ∙ sym (apply_frobenius F W (s + t) a va))

-- ---- three fields
module _ (I J K : Field) (U : IsFiniteField I) (V : IsFiniteField J) (W : IsFiniteField K)
    (a b : List (List ℕ)) (A : IsEmbedding I K a) (B : IsEmbedding J K b) where
  -- **where degrees divide, an embedding goes through another**
  pub embedding_through : degree_of I ∣ degree_of J
      → (m : List (List ℕ)) × IsEmbedding I J m × (comp K m b ≡ a)
  embedding_through d =
      let v : (v : List ℕ) × IsRoot J (constants J I.polynomial) v =
      root_exists I J U V (A.same_characteristic ∙ sym B.same_characteristic) d in
      of_embedding (powers J v.0 (degree_of I))
      (embedding_of_root I J U V (A.same_characteristic ∙ sym B.same_characteristic) v.0 v.1).0
    where
      module_turn : (m : List (List ℕ)) (D : IsEmbedding I J m) (t : ℕ)
          → comp K (comp J m (frobenius_map J t)) b ≡ comp K (comp K m b) (frobenius_map K t)
      module_turn m D t = embeddings_equal I K U W (comp K (comp J m (frobenius_map J t)) b)
          (comp K (comp K m b) (frobenius_map K t))
          (comp_embedding I J K U V W (comp J m (frobenius_map J t)) b
          (after_frobenius_embedding I J U V m D t) B)
          (after_frobenius_embedding I K U W (comp K m b) (comp_embedding I J K U V W m b D B) t)
          (λ c vc. apply_comp I J K U V W (comp J m (frobenius_map J t)) b
          (after_frobenius_embedding I J U V m D t) B c vc
          ∙ ap (apply K b) (apply_after_frobenius I J U V m D t c vc)
          ∙ apply_power J K V W b B (apply J m c) (apply_valid I J U V m D c vc)
          (J.characteristic ^ t)
          ∙ ap₂ (λ w q. power (field_values K).ops w (q ^ t))
          (sym (apply_comp I J K U V W m b D B c vc)) B.same_characteristic
          ∙ sym (apply_after_frobenius I K U W (comp K m b)
          (comp_embedding I J K U V W m b D B) t c vc))

      of_embedding : (m : List (List ℕ)) → IsEmbedding I J m
          → (m : List (List ℕ)) × IsEmbedding I J m × (comp K m b ≡ a)
      of_embedding m D =
          let t : (t : ℕ) × (t < degree_of I) × (a ≡ comp K (comp K m b) (frobenius_map K t)) =
          embeddings_differ I K U W (comp K m b) (comp_embedding I J K U V W m b D B) a A in (
            comp J m (frobenius_map J t.0),
            after_frobenius_embedding I J U V m D t.0,
            module_turn m D t.0 ∙ sym t.2,
          )
