-- Maps between two finite fields of characteristic p that keep the operations, as functions on
-- their elements, and as lists of
-- the images of 1, x, x^2, ..: the two are the same.
--     unit n k                 the list of n residues of which the k-th is one
--     Composed H G             one after the other
use Rattle.std.proofs.Common.{◌≡◌, ℕ, ◌<◌, List, [], ◌∷◌, length, map, replicate, slice_set, slice_index_or, All, refl, ap, ap₂, sym, ◌∙◌, subst, arith, zero, suc}
use Rattle.std.specs.List.{range_with_len}
use Rattle.std.proofs.lemmas.List.{length-map, length-replicate, length-set, get_or-map, ext_get_or, map-set}
use Rattle.std.proofs.lemmas.List.FromFn.{length-map-range_with_len, get_or-map-range_with_len}
use Rattle.alg_model.specs.Coefficients.{Ops, power, residues, mod_ops, IsPrime}
use Rattle.alg_model.specs.Polynomials.{evaluate}
use Rattle.alg_model.specs.Matrices.{combination, unit_column}
use Rattle.alg_model.specs.Maps.{Field, field_values, degree_of, generator, apply, powers, IsEmbedding}
use Rattle.alg_rings.proofs.Elements.{Element, underlying, element_ops, underlying_injective, underlying_lists_injective, elements, elements_are, underlying_valid}
use Rattle.alg_rings.proofs.Homomorphisms.{Homomorphism, evaluate-map, power-map}
use Rattle.alg_rings.proofs.ResidueFields.{prime_residues_field, residues_propositional}
use Rattle.alg_finite.proofs.FieldMaps.{field_homomorphism, injective}
use Rattle.alg_finite.proofs.Combinations.{combine, combine_value, combine_powers, combine_unit, value_of_unit}
use Rattle.alg_finite.proofs.Evaluation.{coefficients, evaluate_by}
use Rattle.alg_finite.proofs.RootMaps
use Rattle.alg_finite.proofs.Values
use Rattle.alg_finite.proofs.Values.{map_twice}
use Rattle.alg_galois.proofs.Fields.{IsModulus, field_of, modulus, propositional, ops, laws, of_residue, of_residue_homomorphism, generator_valid, power_value, residue_induction}

-- one map that keeps the operations after another
pub composed : {A B C : Type 0} {o : Ops A} {k : Ops B} {l : Ops C} {e : A → B} {d : B → C}
    → Homomorphism o k e → Homomorphism k l d
    → Homomorphism o l (λ a. d (e a))
composed {A} {B} {C} {o} {k} {l} {e} {d} H G = record {
  zero = ap d H.zero ∙ G.zero;
  one = ap d H.one ∙ G.one;
  add = λ x y. ap d (H.add x y) ∙ G.add (e x) (e y);
  mul = λ x y. ap d (H.mul x y) ∙ G.mul (e x) (e y);
  neg = λ x. ap d (H.neg x) ∙ G.neg (e x);
  is_zero = λ x. H.is_zero x ∙ G.is_zero (e x);
}

-- the identity keeps the operations
pub identity_homomorphism : {A : Type 0} (o : Ops A) → Homomorphism o o (λ a. a)
identity_homomorphism o =
    record {
      zero = refl;
      one = refl;
      add = λ a b. refl;
      mul = λ a b. refl;
      neg = λ a. refl;
      is_zero = λ a. refl;
    }

map_replicate : {A B : Type 0} (e : A → B) (n : ℕ) (a : A)
    → map e (replicate n a) ≡ replicate n (e a)
map_replicate e zero a = refl
map_replicate e (suc n) a = ap (λ w. e a ∷ w) (map_replicate e n a)

-- ---- a field and its elements
module _ (p : ℕ) (h : IsPrime p) (f : List ℕ) (M : IsModulus p f) where
  -- the class of x
  abbrev pub generator_element : Element (field_values (field_of p f))
  generator_element = (generator (field_of p f), generator_valid p h f M)

  -- which is the remainder of x
  pub generator_is : Values.generator_element (residues_propositional p) (prime_residues_field p h)
      (modulus p h f M) M.irreducible.not_constant M.monic ≡ generator_element
  generator_is = underlying_injective (propositional p h f M) _ _ refl

  -- the coefficients of a value, as residues
  abbrev pub digits_of : Element (field_values (field_of p f)) → List (Element (residues p))
  digits_of a = elements (residues p) a.0 a.1.0

  -- a value is the value of its coefficients at the generator
  pub own_value : (a : Element (field_values (field_of p f)))
      → evaluate (ops p h f M) (map (of_residue p h f M) (digits_of a)) generator_element ≡ a
  own_value a =
      ap (evaluate (ops p h f M) (map (of_residue p h f M) (digits_of a))) (sym generator_is)
      ∙ Values.value_is_own_coefficients (residues_propositional p) (prime_residues_field p h)
      (modulus p h f M) M.irreducible.not_constant M.monic a

  -- as many as the degree
  pub length_digits_of : (a : Element (field_values (field_of p f)))
      → length (digits_of a) ≡ degree_of (field_of p f)
  length_digits_of a = sym (length-map (digits_of a) (underlying (residues p)))
      ∙ ap length (elements_are (residues p) a.0 a.1.0) ∙ a.1.1

  -- the powers of the generator below the degree
  abbrev pub unit : ℕ → List (Element (residues p))
  unit k = slice_set (replicate (degree_of (field_of p f))
      (element_ops (prime_residues_field p h).ring).zero) k (element_ops (prime_residues_field p h).ring).one

  -- the value with one at place k
  abbrev pub unit_element : ℕ → Element (field_values (field_of p f))
  unit_element k = (
    map (underlying (residues p)) (unit k),
    (
      underlying_valid (residues p) (unit k),
      length-map (unit k) (underlying (residues p))
          ∙ length-set (replicate (degree_of (field_of p f))
          (element_ops (prime_residues_field p h).ring).zero) k
          (element_ops (prime_residues_field p h).ring).one
          ∙ length-replicate (degree_of (field_of p f))
          (element_ops (prime_residues_field p h).ring).zero,
    ),
  )

  -- as a list it is the k-th unit column
  pub unit_is_column : (k : ℕ)
      → (unit_element k).0 ≡ unit_column (mod_ops p) (degree_of (field_of p f)) k
  unit_is_column k =
      map-set (underlying (residues p))
      (replicate (degree_of (field_of p f)) (element_ops (prime_residues_field p h).ring).zero) k
      (element_ops (prime_residues_field p h).ring).one
      ∙ ap (λ w. slice_set w k 1)
      (map_replicate (underlying (residues p)) (degree_of (field_of p f))
      (element_ops (prime_residues_field p h).ring).zero)

  -- its coefficients
  pub digits_of_unit : (k : ℕ) → digits_of (unit_element k) ≡ unit k
  digits_of_unit k = underlying_lists_injective (residues_propositional p) _ _
      (elements_are (residues p) (unit_element k).0 (unit_element k).1.0)

  -- it is the power k of the generator
  pub unit_is_power : (k : ℕ) → k < degree_of (field_of p f)
      → unit_element k ≡ power (ops p h f M) generator_element k
  unit_is_power k l =
      sym (own_value (unit_element k))
      ∙ ap (λ w. evaluate (ops p h f M) (map (of_residue p h f M) w) generator_element)
      (digits_of_unit k)
      ∙ value_of_unit (laws p h f M).ring (of_residue_homomorphism p h f M)
      (degree_of (field_of p f)) k generator_element l

-- ---- two fields
module _ (p : ℕ) (h : IsPrime p) (f : List ℕ) (M : IsModulus p f) (g : List ℕ)
    (N : IsModulus p g) where
  abbrev E : Field
  E = field_of p f

  abbrev F : Field
  F = field_of p g

  abbrev EE : Type 0
  EE = Element (field_values E)

  abbrev FE : Type 0
  FE = Element (field_values F)

  abbrev x : EE
  x = generator_element p h f M

  abbrev EO : Ops (Element (field_values (field_of p f)))
  EO = ops p h f M

  abbrev FO : Ops (Element (field_values (field_of p g)))
  FO = ops p h g N

  -- **constants are kept**
  pub keeps_constants : {e : Element (field_values (field_of p f))
      → Element (field_values (field_of p g))} → Homomorphism (ops p h f M) (ops p h g N) e
      → (b : Element (residues p)) → e (of_residue p h f M b) ≡ of_residue p h g N b
  keeps_constants {e} H = residue_induction p h
      (λ b. e (of_residue p h f M b) ≡ of_residue p h g N b)
      (ap e C.zero ∙ H.zero ∙ sym D.zero)
      (λ a s. ap e (C.add a R.one ∙ ap (EO.add (of_residue p h f M a)) C.one)
      ∙ H.add (of_residue p h f M a) EO.one
      ∙ ap₂ FO.add s H.one ∙ sym (D.add a R.one ∙ ap (FO.add (of_residue p h g N a)) D.one))
    where
      R : Ops (Element (residues p))
      R = element_ops (prime_residues_field p h).ring

      C : Homomorphism (element_ops (prime_residues_field p h).ring) (ops p h f M) (of_residue p h f M)
      C = of_residue_homomorphism p h f M

      D : Homomorphism (element_ops (prime_residues_field p h).ring) (ops p h g N) (of_residue p h g N)
      D = of_residue_homomorphism p h g N

  module _ {e : Element (field_values (field_of p f)) → Element (field_values (field_of p g))}
      (H : Homomorphism (ops p h f M) (ops p h g N) e) where
    -- values of polynomials over the prime field are kept
    pub keeps_values : (G : List (Element (residues p))) (a : Element (field_values (field_of p f)))
        → e (evaluate (ops p h f M) (map (of_residue p h f M) G) a)
        ≡ evaluate (ops p h g N) (map (of_residue p h g N) G) (e a)
    keeps_values G a = evaluate-map H (map (of_residue p h f M) G) a
        ∙ ap (λ w. evaluate FO w (e a))
        (map_twice e (of_residue p h f M) (of_residue p h g N) (keeps_constants H) G)

    -- **so the image of the generator determines the map**
    pub determined : (a : Element (field_values (field_of p f)))
        → e a ≡ evaluate (ops p h g N) (map (of_residue p h g N) (digits_of p h f M a))
        (e (generator_element p h f M))
    determined a = ap e (sym (own_value p h f M a)) ∙ keeps_values (digits_of p h f M a) x

    -- such a map is injective
    pub image_injective : (a b : Element (field_values (field_of p f))) → e a ≡ e b → a ≡ b
    image_injective = injective (laws p h f M).ring (laws p h g N).ring H

    -- **the image of the generator is a root**
    pub generator_image : evaluate_by (residues p) (of_residue p h g N) (ops p h g N) (modulus p h f M)
        (e (generator_element p h f M)) ≡ (ops p h g N).zero
    generator_image =
        sym (keeps_values (coefficients (residues p) (modulus p h f M)) x)
        ∙ ap e (ap (λ y. evaluate_by (residues p) (of_residue p h f M) EO (modulus p h f M) y)
        (sym (generator_is p h f M))
        ∙ Values.generator_is_root (residues_propositional p) (prime_residues_field p h)
        (modulus p h f M) M.irreducible.not_constant M.monic)
        ∙ H.zero

  -- ---- maps as lists
  -- what a map gives is a combination
  pub apply_elements : (cs : List (Element (field_values (field_of p g))))
      (a : Element (field_values (field_of p f)))
      → (combine (of_residue p h g N) (ops p h g N) cs (digits_of p h f M a)).0
      ≡ apply (field_of p g) (map (underlying (field_values (field_of p g))) cs) a.0
  apply_elements cs a =
      combine_value (residues_propositional p) (prime_residues_field p h)
      (modulus p h g N) N.irreducible.not_constant N.monic cs (digits_of p h f M a)
      ∙ ap (combination (mod_ops p) (degree_of F) (map (underlying (field_values F)) cs))
      (elements_are (residues p) a.0 a.1.0)

  -- the map 1, v, v^2, .. gives the value at v
  pub powers_are : (v : Element (field_values (field_of p g))) (n : ℕ)
      → map (underlying (field_values (field_of p g))) (map (power (ops p h g N) v) (range_with_len 0 n))
      ≡ powers (field_of p g) v.0 n
  powers_are v n = map_twice (underlying (field_values F)) (power FO v) (power (field_values F).ops v.0)
      (power_value p h g N v) (range_with_len 0 n)

  -- the map 1, v, v^2, .. gives the value of the coefficients at v
  pub apply_powers : (v : Element (field_values (field_of p g)))
      (a : Element (field_values (field_of p f)))
      → apply (field_of p g) (powers (field_of p g) v.0 (degree_of (field_of p f))) a.0
      ≡ (evaluate (ops p h g N) (map (of_residue p h g N) (digits_of p h f M a)) v).0
  apply_powers v a =
      ap (λ m. apply F m a.0) (sym (powers_are v (degree_of E)))
      ∙ sym (apply_elements (map (power FO v) (range_with_len 0 (degree_of E))) a)
      ∙ ap (λ y. y.0) (combine_powers (laws p h g N).ring (of_residue_homomorphism p h g N) v
      (degree_of E) (digits_of p h f M a)
      (omega (arith, length_digits_of p h f M a)))

  -- its members are values
  pub powers_valid : (v : Element (field_values (field_of p g))) (n : ℕ)
      → All (field_values (field_of p g)).Valid (powers (field_of p g) v.0 n)
  powers_valid v n = subst (All (field_values F).Valid) (powers_are v n)
      (underlying_valid (field_values F) (map (power FO v) (range_with_len 0 n)))

  -- there are n of them
  pub length_powers : (v : List ℕ) (n : ℕ) → length (powers (field_of p g) v n) ≡ n
  length_powers v n = length-map-range_with_len (power (field_values F).ops v) 0 n

  -- **a map that keeps the operations is an embedding: the powers of the generator's image**
  module _ {e : Element (field_values (field_of p f)) → Element (field_values (field_of p g))}
      (H : Homomorphism (ops p h f M) (ops p h g N) e) where
    -- the list of the powers of the generator's image
    abbrev pub map_of : List (List ℕ)
    map_of = powers (field_of p g) (e (generator_element p h f M)).0 (degree_of (field_of p f))

    -- which gives what the map gives
    pub apply_map_of : (a : Element (field_values (field_of p f)))
        → apply (field_of p g) map_of a.0 ≡ (e a).0
    apply_map_of a = apply_powers (e x) a ∙ ap (λ y. y.0) (sym (determined H a))

    -- and is an embedding
    pub embedding_of : IsEmbedding (field_of p f) (field_of p g) map_of
    embedding_of = record {
      same_characteristic = refl;
      count = length_powers (e x).0 (degree_of E);
      images = powers_valid (e x) (degree_of E);
      one = apply_map_of EO.one ∙ ap (λ y. y.0) H.one;
      sums = λ a b va vb. apply_map_of (EO.add (a, va) (b, vb))
          ∙ ap (λ y. y.0) (H.add (a, va) (b, vb))
          ∙ ap₂ (field_values F).ops.add (sym (apply_map_of (a, va))) (sym (apply_map_of (b, vb)));
      products = λ a b va vb. apply_map_of (EO.mul (a, va) (b, vb))
          ∙ ap (λ y. y.0) (H.mul (a, va) (b, vb))
          ∙ ap₂ (field_values F).ops.mul (sym (apply_map_of (a, va))) (sym (apply_map_of (b, vb)));
    }

    -- a map whose members are the images of the powers of the generator is it
    pub map_is_powers : (m : List (List ℕ)) → length m ≡ degree_of (field_of p f)
        → ((k : ℕ) → k < degree_of (field_of p f)
        → slice_index_or m k [] ≡ (e (unit_element p h f M k)).0) → m ≡ map_of
    map_is_powers m l s = ext_get_or [] m map_of (l ∙ sym (length_powers (e x).0 (degree_of E)))
        (λ k w. let r : k < degree_of E = omega (arith, l) in
        s k r ∙ ap (λ y. (e y).0) (unit_is_power p h f M k r) ∙ ap (λ y. y.0) (power-map H x k)
        ∙ power_value p h g N (e x) k
        ∙ sym (get_or-map-range_with_len (power (field_values F).ops (e x).0) 0
        (degree_of E) k k [] r (omega arith)))

  -- **and an embedding keeps the operations**
  module _ (m : List (List ℕ)) (D : IsEmbedding (field_of p f) (field_of p g) m) where
    abbrev cs : List (Element (field_values (field_of p g)))
    cs = elements (field_values F) m D.images

    apply_is : (a : EE) → (combine (of_residue p h g N) FO cs (digits_of p h f M a)).0
        ≡ apply F m a.0
    apply_is a = apply_elements cs a
        ∙ ap (λ w. apply F w a.0) (elements_are (field_values F) m D.images)

    -- the image of a value is a value
    pub apply_valid : (a : Element (field_values (field_of p f)))
        → (field_values (field_of p g)).Valid (apply (field_of p g) m a.0)
    apply_valid a = subst (field_values F).Valid (apply_is a)
        (combine (of_residue p h g N) FO cs (digits_of p h f M a)).1

    -- an embedding on elements
    abbrev pub function_of : Element (field_values (field_of p f))
        → Element (field_values (field_of p g))
    function_of a = (apply (field_of p g) m a.0, apply_valid a)

    -- it keeps the operations
    pub function_homomorphism : Homomorphism (ops p h f M) (ops p h g N) function_of
    function_homomorphism = field_homomorphism (laws p h f M) (laws p h g N)
        (underlying_injective (propositional p h g N) _ _ D.one)
        (λ a b. underlying_injective (propositional p h g N) _ _ (D.sums a.0 b.0 a.1 b.1))
        (λ a b. underlying_injective (propositional p h g N) _ _ (D.products a.0 b.0 a.1 b.1))

    -- its k-th member is the image of the power k of the generator
    pub unit_image : (k : ℕ) → k < degree_of (field_of p f)
        → slice_index_or m k [] ≡ (function_of (unit_element p h f M k)).0
    unit_image k l =
        let lc : length cs ≡ length m = sym (length-map cs (underlying (field_values F)))
        ∙ ap length (elements_are (field_values F) m D.images) in
        ap (λ w. slice_index_or w k []) (sym (elements_are (field_values F) m D.images))
        ∙ get_or-map (underlying (field_values F)) cs k FO.zero [] (omega (arith, lc, D.count))
        ∙ ap (λ y. y.0) (sym (combine_unit (laws p h g N).ring (of_residue_homomorphism p h g N) cs
        (degree_of E) k FO.zero (omega (arith, lc, D.count)) l))
        ∙ ap (λ w. (combine (of_residue p h g N) FO cs w).0) (sym (digits_of_unit p h f M k))
        ∙ apply_is (unit_element p h f M k)

    -- **an embedding is the powers of its generator's image**
    pub embedding_is_powers : m
        ≡ powers (field_of p g) (apply (field_of p g) m (generator (field_of p f)))
        (degree_of (field_of p f))
    embedding_is_powers = map_is_powers function_homomorphism m D.count unit_image

  -- **a root gives an embedding, its powers**
  module _ (v : Element (field_values (field_of p g)))
      (root : evaluate_by (residues p) (of_residue p h g N) (ops p h g N) (modulus p h f M) v
      ≡ (ops p h g N).zero) where
    -- the map of a root keeps the operations
    pub root_function : Homomorphism (ops p h f M) (ops p h g N)
        (RootMaps.root_map (residues_propositional p) (prime_residues_field p h)
        (modulus p h f M) M.irreducible.not_constant M.monic (laws p h g N)
        (of_residue_homomorphism p h g N) v root)
    root_function = RootMaps.root_homomorphism (residues_propositional p) (prime_residues_field p h)
        (modulus p h f M) M.irreducible.not_constant M.monic
        (laws p h g N) (of_residue_homomorphism p h g N) v root M.irreducible

    -- its list is an embedding
    pub root_embedding : IsEmbedding (field_of p f) (field_of p g)
        (powers (field_of p g) v.0 (degree_of (field_of p f)))
    root_embedding = record {
      same_characteristic = refl;
      count = length_powers v.0 (degree_of E);
      images = powers_valid v (degree_of E);
      one = apply_powers v EO.one ∙ ap (λ y. y.0) root_function.one;
      sums = λ a b va vb. apply_powers v (EO.add (a, va) (b, vb))
          ∙ ap (λ y. y.0) (root_function.add (a, va) (b, vb))
          ∙ ap₂ (field_values F).ops.add (sym (apply_powers v (a, va)))
          (sym (apply_powers v (b, vb)));
      products = λ a b va vb. apply_powers v (EO.mul (a, va) (b, vb))
          ∙ ap (λ y. y.0) (root_function.mul (a, va) (b, vb))
          ∙ ap₂ (field_values F).ops.mul (sym (apply_powers v (a, va)))
          (sym (apply_powers v (b, vb)));
    }

    -- that sends the generator to the root
    pub apply_root_embedding : apply (field_of p g)
        (powers (field_of p g) v.0 (degree_of (field_of p f))) (generator (field_of p f)) ≡ v.0
    apply_root_embedding = apply_powers v x ∙ ap (λ y. y.0)
        (ap (λ y. evaluate FO (map (of_residue p h g N) (digits_of p h f M y)) v)
        (sym (generator_is p h f M))
        ∙ RootMaps.root_map_generator (residues_propositional p) (prime_residues_field p h)
        (modulus p h f M) M.irreducible.not_constant M.monic
        (laws p h g N) (of_residue_homomorphism p h g N) v root)
