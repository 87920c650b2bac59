-- Embeddings of finite fields as lists of images: what the model's definitions of apply, comp and
-- identity keep.
use Rattle.std.proofs.Common.{◌≡◌, ℕ, ◌^◌, List, [], ap, sym, ◌∙◌, subst, arith}
use Rattle.std.proofs.lemmas.List.{length-map, get_or-map}
use Rattle.alg_model.specs.Coefficients.{Ops, power, mod_ops, IsPrime}
use Rattle.alg_model.specs.Maps.{Field, IsFiniteField, field_values, degree_of, generator, apply, comp, identity_map, powers, frobenius_map, IsEmbedding}
use Rattle.alg_rings.proofs.Elements.{Element, underlying_injective}
use Rattle.alg_rings.proofs.Homomorphisms.{Homomorphism}
use Rattle.alg_linear.proofs.Columns.{column_of_identity, length_identity}
use Rattle.alg_galois.proofs.Fields.{IsModulus, modulus_of, field_of, at_one_characteristic, propositional, ops, power_value}
use Rattle.alg_galois.proofs.FieldEmbeddings
use Rattle.alg_galois.proofs.FieldEmbeddings.{identity_homomorphism, composed, generator_element, unit_element, function_of, function_homomorphism, map_of, embedding_of, apply_map_of, map_is_powers, embedding_is_powers, image_injective}
use Rattle.alg_galois.proofs.FieldFrobenius.{frobenius_keeps}

-- ---- what holds of the polynomials of two or three fields over one characteristic holds of the
-- fields
pub of_two_fields : (T : Field → Field → Type 0)
    → ((p : ℕ) → IsPrime p → (f : List ℕ) → IsModulus p f → (g : List ℕ) → IsModulus p g
    → T (field_of p f) (field_of p g))
    → (E F : Field) → IsFiniteField E → IsFiniteField F → E.characteristic ≡ F.characteristic
    → T E F
of_two_fields T t E F WE WF e =
    at_one_characteristic E F.characteristic e (λ E. IsFiniteField E → T E F)
    (λ W. t F.characteristic WF.characteristic E.polynomial
    (modulus_of (field_of F.characteristic E.polynomial) W) F.polynomial (modulus_of F WF)) WE

-- the same for three fields
pub of_three_fields : (T : Field → Field → Field → Type 0)
    → ((p : ℕ) → IsPrime p → (f : List ℕ) → IsModulus p f → (g : List ℕ) → IsModulus p g
    → (k : List ℕ) → IsModulus p k
    → T (field_of p f) (field_of p g) (field_of p k))
    → (E F G : Field) → IsFiniteField E → IsFiniteField F → IsFiniteField G
    → E.characteristic ≡ F.characteristic → F.characteristic ≡ G.characteristic → T E F G
of_three_fields T t E F G WE WF WG e d =
    at_one_characteristic E G.characteristic (e ∙ d) (λ E. IsFiniteField E → T E F G)
    (λ V. at_one_characteristic F G.characteristic d
    (λ F. IsFiniteField F → T (field_of G.characteristic E.polynomial) F G)
    (λ W. t G.characteristic WG.characteristic E.polynomial
    (modulus_of (field_of G.characteristic E.polynomial) V)
    F.polynomial (modulus_of (field_of G.characteristic F.polynomial) W) G.polynomial
    (modulus_of G WG)) WF) WE

-- ---- one field
module _ (F : Field) (W : IsFiniteField F) where
  abbrev N : IsModulus F.characteristic F.polynomial
  N = modulus_of F W

  abbrev FO : Ops (Element (field_values F))
  FO = ops F.characteristic W.characteristic F.polynomial (modulus_of F W)

  identity_is : identity_map F
      ≡ map_of F.characteristic W.characteristic F.polynomial N F.polynomial N
      (identity_homomorphism FO)
  identity_is = map_is_powers F.characteristic W.characteristic F.polynomial N F.polynomial N
      (identity_homomorphism FO) (identity_map F)
      (length_identity (mod_ops F.characteristic) (degree_of F))
      (λ k l. column_of_identity (mod_ops F.characteristic) (degree_of F) k l
      ∙ sym (FieldEmbeddings.unit_is_column F.characteristic W.characteristic F.polynomial N k))

  -- **the identity is an embedding, and gives each value back**
  pub identity_embedding : IsEmbedding F F (identity_map F)
  identity_embedding = subst (IsEmbedding F F) (sym identity_is)
      (embedding_of F.characteristic W.characteristic F.polynomial N F.polynomial N
      (identity_homomorphism FO))

  -- the identity gives each value back
  pub apply_identity : (a : List ℕ) → (field_values F).Valid a → apply F (identity_map F) a ≡ a
  apply_identity a va = ap (λ m. apply F m a) identity_is
      ∙ apply_map_of F.characteristic W.characteristic F.polynomial N F.polynomial N
      (identity_homomorphism FO) (a, va)

  frobenius_is : (t : ℕ) → frobenius_map F t
      ≡ map_of F.characteristic W.characteristic F.polynomial N F.polynomial N
      (frobenius_keeps F.characteristic W.characteristic F.polynomial N t)
  frobenius_is t = ap (λ v. powers F v (degree_of F))
      (sym (power_value F.characteristic W.characteristic F.polynomial N
      (generator_element F.characteristic W.characteristic F.polynomial N) (F.characteristic ^ t)))

  -- **each power of Frobenius is an embedding, and sends a to a^(p^t)**
  pub frobenius_embedding : (t : ℕ) → IsEmbedding F F (frobenius_map F t)
  frobenius_embedding t = subst (IsEmbedding F F) (sym (frobenius_is t))
      (embedding_of F.characteristic W.characteristic F.polynomial N F.polynomial N
      (frobenius_keeps F.characteristic W.characteristic F.polynomial N t))

  -- the power t of Frobenius sends a to a^(p^t)
  pub apply_frobenius : (t : ℕ) (a : List ℕ) → (field_values F).Valid a
      → apply F (frobenius_map F t) a ≡ power (field_values F).ops a (F.characteristic ^ t)
  apply_frobenius t a va =
      ap (λ m. apply F m a) (frobenius_is t)
      ∙ apply_map_of F.characteristic W.characteristic F.polynomial N F.polynomial N
      (frobenius_keeps F.characteristic W.characteristic F.polynomial N t) (a, va)
      ∙ power_value F.characteristic W.characteristic F.polynomial N (a, va) (F.characteristic ^ t)

-- ---- two fields
module _ (E F : Field) (V : IsFiniteField E) (W : IsFiniteField F) where
  -- **the image of a value is a value**
  pub apply_valid : (m : List (List ℕ)) → IsEmbedding E F m → (a : List ℕ)
      → (field_values E).Valid a → (field_values F).Valid (apply F m a)
  apply_valid m D = of_two_fields
      (λ E F. IsEmbedding E F m → (a : List ℕ) → (field_values E).Valid a
      → (field_values F).Valid (apply F m a))
      (λ p h f M g N D a va. FieldEmbeddings.apply_valid p h f M g N m D (a, va)) E F V W
      D.same_characteristic D

  -- **an embedding is injective**
  pub embedding_injective : (m : List (List ℕ)) → IsEmbedding E F m → (a b : List ℕ)
      → (field_values E).Valid a → (field_values E).Valid b
      → apply F m a ≡ apply F m b → a ≡ b
  embedding_injective m D = of_two_fields
      (λ E F. IsEmbedding E F m → (a b : List ℕ) → (field_values E).Valid a
      → (field_values E).Valid b → apply F m a ≡ apply F m b → a ≡ b)
      (λ p h f M g N D a b va vb e. ap (λ y. y.0)
      (image_injective p h f M g N (function_homomorphism p h f M g N m D) (a, va) (b, vb)
      (underlying_injective (propositional p h g N) _ _ e))) E F V W D.same_characteristic D

  -- **an embedding is the powers of its generator's image**
  pub embedding_is_powers_of_image : (m : List (List ℕ)) → IsEmbedding E F m
      → m ≡ powers F (apply F m (generator E)) (degree_of E)
  embedding_is_powers_of_image m D =
      of_two_fields (λ E F. IsEmbedding E F m
      → m ≡ powers F (apply F m (generator E)) (degree_of E))
      (λ p h f M g N D. embedding_is_powers p h f M g N m D) E F V W D.same_characteristic D

  -- the generator is a value
  pub generator_is_value : (field_values E).Valid (generator E)
  generator_is_value = (generator_element E.characteristic V.characteristic E.polynomial
      (modulus_of E V)).1

  -- **embeddings that agree on all values are equal**
  pub embeddings_equal : (m n : List (List ℕ)) → IsEmbedding E F m → IsEmbedding E F n
      → ((a : List ℕ) → (field_values E).Valid a → apply F m a ≡ apply F n a) → m ≡ n
  embeddings_equal m n D C s =
      embedding_is_powers_of_image m D
      ∙ ap (λ v. powers F v (degree_of E)) (s (generator E) generator_is_value)
      ∙ sym (embedding_is_powers_of_image n C)

-- ---- three fields
module _ (p : ℕ) (h : IsPrime p) (f : List ℕ) (M : IsModulus p f) (g : List ℕ)
    (N : IsModulus p g) (k : List ℕ) (O : IsModulus p k)
    (m n : List (List ℕ)) (D : IsEmbedding (field_of p f) (field_of p g) m)
    (C : IsEmbedding (field_of p g) (field_of p k) n) where
  both : Homomorphism (ops p h f M) (ops p h k O)
      (λ a. function_of p h g N k O n C (function_of p h f M g N m D a))
  both = composed (function_homomorphism p h f M g N m D) (function_homomorphism p h g N k O n C)

  comp_is : comp (field_of p k) m n ≡ map_of p h f M k O both
  comp_is = map_is_powers p h f M k O both (comp (field_of p k) m n)
      (length-map m (apply (field_of p k) n) ∙ D.count)
      (λ i l. get_or-map (apply (field_of p k) n) m i [] [] (omega (arith, D.count))
      ∙ ap (apply (field_of p k) n) (FieldEmbeddings.unit_image p h f M g N m D i l))

  comp_is_embedding : IsEmbedding (field_of p f) (field_of p k) (comp (field_of p k) m n)
  comp_is_embedding = subst (IsEmbedding (field_of p f) (field_of p k)) (sym comp_is)
      (embedding_of p h f M k O both)

  apply_comp_is : (a : List ℕ) → (field_values (field_of p f)).Valid a
      → apply (field_of p k) (comp (field_of p k) m n) a
      ≡ apply (field_of p k) n (apply (field_of p g) m a)
  apply_comp_is a va = ap (λ c. apply (field_of p k) c a) comp_is
      ∙ apply_map_of p h f M k O both (a, va)

module _ (E F G : Field) (U : IsFiniteField E) (V : IsFiniteField F) (W : IsFiniteField G)
    (m n : List (List ℕ)) (D : IsEmbedding E F m) (C : IsEmbedding F G n) where
  -- **one embedding after another is an embedding**
  pub comp_embedding : IsEmbedding E G (comp G m n)
  comp_embedding = of_three_fields
      (λ E F G. IsEmbedding E F m → IsEmbedding F G n → IsEmbedding E G (comp G m n))
      (λ p h f M g N k O D C. comp_is_embedding p h f M g N k O m n D C) E F G U V W
      D.same_characteristic C.same_characteristic D C

  -- the composition is one map after the other
  pub apply_comp : (a : List ℕ) → (field_values E).Valid a
      → apply G (comp G m n) a ≡ apply G n (apply F m a)
  apply_comp = of_three_fields
      (λ E F G. IsEmbedding E F m → IsEmbedding F G n → (a : List ℕ) → (field_values E).Valid a
      → apply G (comp G m n) a ≡ apply G n (apply F m a))
      (λ p h f M g N k O D C. apply_comp_is p h f M g N k O m n D C) E F G U V W
      D.same_characteristic C.same_characteristic D C

-- ---- laws of composition
module _ (E F : Field) (V : IsFiniteField E) (W : IsFiniteField F) (m : List (List ℕ))
    (D : IsEmbedding E F m) where
  -- the identity before an embedding changes nothing
  pub identity_comp : comp F (identity_map E) m ≡ m
  identity_comp = embeddings_equal E F V W (comp F (identity_map E) m) m
      (comp_embedding E E F V V W (identity_map E) m (identity_embedding E V) D) D
      (λ a va. apply_comp E E F V V W (identity_map E) m (identity_embedding E V) D a va
      ∙ ap (apply F m) (apply_identity E V a va))

  -- nor does the identity after it
  pub comp_identity : comp F m (identity_map F) ≡ m
  comp_identity = embeddings_equal E F V W (comp F m (identity_map F)) m
      (comp_embedding E F F V W W m (identity_map F) D (identity_embedding F W)) D
      (λ a va. apply_comp E F F V W W m (identity_map F) D (identity_embedding F W) a va
      ∙ apply_identity F W (apply F m a) (apply_valid E F V W m D a va))

module _ (E F G : Field) (U : IsFiniteField E) (V : IsFiniteField F) (W : IsFiniteField G) where
  -- **a map after which an embedding follows is determined**
  pub comp_cancel : (m n k : List (List ℕ)) → IsEmbedding E F m → IsEmbedding E F n
      → IsEmbedding F G k → comp G m k ≡ comp G n k → m ≡ n
  comp_cancel m n k D C B e = embeddings_equal E F U V m n D C
      (λ a va. embedding_injective F G V W k B (apply F m a) (apply F n a)
      (apply_valid E F U V m D a va) (apply_valid E F U V n C a va)
      (sym (apply_comp E F G U V W m k D B a va) ∙ ap (λ c. apply G c a) e
      ∙ apply_comp E F G U V W n k C B a va))

module _ (A E F G : Field) (T : IsFiniteField A) (U : IsFiniteField E) (V : IsFiniteField F)
    (W : IsFiniteField G) where
  -- composition is associative
  pub comp_assoc : (l m n : List (List ℕ)) → IsEmbedding A E l → IsEmbedding E F m
      → IsEmbedding F G n → comp G (comp F l m) n ≡ comp G l (comp G m n)
  comp_assoc l m n B C D =
      embeddings_equal A G T W (comp G (comp F l m) n) (comp G l (comp G m n))
      (comp_embedding A F G T V W (comp F l m) n first D)
      (comp_embedding A E G T U W l (comp G m n) B second)
      (λ a va. apply_comp A F G T V W (comp F l m) n first D a va
      ∙ ap (apply G n) (apply_comp A E F T U V l m B C a va)
      ∙ sym (apply_comp A E G T U W l (comp G m n) B second a va
      ∙ apply_comp E F G U V W m n C D (apply E l a) (apply_valid A E T U l B a va)))
    where
      first : IsEmbedding A F (comp F l m)
      first = comp_embedding A E F T U V l m B C

      second : IsEmbedding E G (comp G m n)
      second = comp_embedding E F G U V W m n C D
