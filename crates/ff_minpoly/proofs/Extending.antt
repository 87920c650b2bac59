-- Let g be the minimal polynomial over D of the generator x of E, where s takes D into E, and let t
-- take D into F. The values of F at which g is zero, its coefficients taken by t, are those v for
-- which the map of E into F that sends x to v is an embedding that agrees with t on D.
--     lowered b cs     the polynomial over D with the residues cs as coefficients, less b
use Rattle.std.proofs.Common.{◌≡◌, ◌↔◌, ℕ, ◌+◌, ◌-◌, ◌*◌, ◌/◌, ◌<◌, ◌≤◌, List, [], ◌∷◌, length, map, slice_index_or, All, refl, ap, ap₂, sym, ◌∙◌, subst, arith}
use Rattle.std.proofs.lemmas.List.{length-map, get_or-map}
use Rattle.std.proofs.lemmas.List.Elements.{All-head, All-tail, All-map}
use Rattle.std.proofs.lemmas.Nat.Gcd.{le_of_dvd}
use Rattle.std.proofs.lemmas.Nat.{mul-le}
use native.Mathlib.Nat.{div-le_of_le-mul}
use Rattle.alg_model.specs.Coefficients.{Ops, Carrier, residues, IsPrime}
use Rattle.alg_model.specs.Polynomials.{evaluate, trim}
use Rattle.alg_model.specs.Factors.{IsPolynomial, IsMonic, Divides}
use Rattle.alg_model.specs.Fields.{IsRing, IsField}
use Rattle.alg_model.specs.Maps.{Field, IsFiniteField, field_values, degree_of, generator, apply, comp, powers, IsEmbedding}
use Rattle.alg_model.specs.Roots.{IsMinimalOver}
use Rattle.alg_rings.specs.Laws.{RingLaws, IsPropositional}
use Rattle.alg_rings.proofs.Rings
use Rattle.alg_rings.proofs.Elements.{Element, element_ops, underlying, underlying_homomorphism, underlying_injective, underlying_lists_injective, underlying_valid, elements, elements_are}
use Rattle.alg_rings.proofs.Homomorphisms.{Homomorphism, trim-map, evaluate-map}
use Rattle.alg_rings.proofs.Evaluation
use Rattle.alg_rings.proofs.Trims.{leading_at}
use Rattle.alg_rings.proofs.CarrierPolynomials.{trim_polynomial, trimmed_from_leading}
use Rattle.alg_rings.proofs.ResidueFields.{residues_propositional}
use Rattle.alg_rings.proofs.Divisibility
use Rattle.alg_rings.proofs.Divisors.{Polynomial, polynomial_ops}
use Rattle.alg_divisors.proofs.PolynomialFactors.{divides_from}
use Rattle.alg_fields.proofs.OverResidues.{field_at_values}
use Rattle.alg_fields.proofs.ValueFields.{values_propositional}
use Rattle.alg_finite.proofs.Evaluation.{coefficients, evaluate_by, evaluate_product}
use Rattle.alg_finite.proofs.Values.{map_twice}
use Rattle.alg_galois.proofs.Fields.{IsModulus, field_of, modulus, propositional, field_is, ops, laws, of_residue, evaluate_value, map_map}
use Rattle.alg_galois.proofs.FieldEmbeddings.{identity_homomorphism, generator_element, digits_of, own_value, keeps_constants, generator_image, apply_powers, function_of, function_homomorphism, root_embedding, apply_root_embedding}
use Rattle.alg_galois.proofs.FieldMinimals.{subfield_minimals}
use Rattle.alg_galois.proofs.Embeddings.{of_two_fields, of_three_fields, apply_valid, embeddings_equal, generator_is_value, comp_embedding, apply_comp}
use Rattle.alg_galois.proofs.FieldSizes.{generator_returns}
use Rattle.alg_galois.proofs.EmbeddingRoots.{zero_kept}
use Rattle.ff_minpoly.proofs.ShortPolynomials.{subfield_short}
use Rattle.ff_minpoly.proofs.SubfieldRelations.{degrees_multiply}

-- ---- the polynomial of a list of coefficients
module _ {X A : Type 0} {c : Carrier X} (P : IsPropositional c) (R : IsRing c) {o : Ops A}
    (L : RingLaws o) {h : Element c → A} (H : Homomorphism (element_ops R) o h) where
  abbrev trimmed : List (Element c) → Polynomial c
  trimmed l = (
    trim c.ops (map (underlying c) l),
    trim_polynomial P R (map (underlying c) l) (underlying_valid c l),
  )

  -- it has the value of the list
  value_of_trimmed : (l : List (Element c)) (a : A)
      → evaluate_by c h o (
        trim c.ops (map (underlying c) l),
        trim_polynomial P R (map (underlying c) l) (underlying_valid c l),
      ) a
      ≡ evaluate o (map h l) a
  value_of_trimmed l a =
      ap (λ w. evaluate o (map h w) a)
      (underlying_lists_injective P (coefficients c (trimmed l)) (trim (element_ops R) l)
      (elements_are c (trimmed l).0 (trimmed l).1.0 ∙ sym (trim-map (underlying_homomorphism R) l)))
      ∙ ap (λ w. evaluate o w a) (trim-map H l)
      ∙ Evaluation.value_of_trim L (map h l) a

-- ---- what is zero at a through one map is zero at b through another one
module _ {X Y Z : Type 0} {c : Carrier X} (P : IsPropositional c) (Fc : IsField c) {d : Carrier Y}
    (Q : IsPropositional d) (R : IsRing d) (Ld : RingLaws (element_ops R)) {k : Carrier Z}
    (S : IsPropositional k) (T : IsRing k) (Lk : RingLaws (element_ops T))
    {e : Element c → Element d}
    (H : Homomorphism (element_ops Fc.ring) (element_ops R) e) (image : X → Y)
    (same : (x : Element c) → (e x).0 ≡ image x.0) {f : Element c → Element k}
    (G : Homomorphism (element_ops Fc.ring) (element_ops T) f) (shape : X → Z)
    (alike : (x : Element c) → (f x).0 ≡ shape x.0) (a : Element d) (b : Element k) (g : List X)
    (pg : IsPolynomial c g)
    (divides : (q : List X) → IsPolynomial c q → evaluate d.ops (map image q) a.0 ≡ d.ops.zero
    → Divides c g q)
    (root : evaluate k.ops (map shape g) b.0 ≡ k.ops.zero) where
  carried : (l : List (Element c)) → evaluate (element_ops R) (map e l) a ≡ (element_ops R).zero
      → evaluate (element_ops T) (map f l) b ≡ (element_ops T).zero
  carried l zero_is =
      let q : Polynomial c = (
        trim c.ops (map (underlying c) l),
        trim_polynomial P Fc.ring (map (underlying c) l) (underlying_valid c l),
      ) in
      let y : Polynomial c = (g, pg) in
      let D : Divisibility.Divides (polynomial_ops P Fc.ring) y q =
      divides_from P Fc y q (divides q.0 q.1
      (sym (evaluate_value c R e image same q a)
      ∙ ap (λ v. v.0) (value_of_trimmed P Fc.ring Ld H l a ∙ zero_is))) in
      let gone : evaluate_by c f (element_ops T) y b ≡ (element_ops T).zero =
      underlying_injective S _ _ (evaluate_value c T f shape alike y b ∙ root) in
      sym (value_of_trimmed P Fc.ring Lk G l b)
      ∙ ap (λ w. evaluate_by c f (element_ops T) w b) (sym D.identity)
      ∙ evaluate_product P Fc.ring Lk G b D.quotient y
      ∙ ap ((element_ops T).mul (evaluate_by c f (element_ops T) D.quotient b)) gone
      ∙ Rings.mul_zero Lk (evaluate_by c f (element_ops T) D.quotient b)

-- ---- polynomials over D with residues as coefficients, less a value of D
module _ (p : ℕ) (h : IsPrime p) (d : List ℕ) (L : IsModulus p d) (g : List ℕ)
    (N : IsModulus p g) {e : Element (field_values (field_of p d))
    → Element (field_values (field_of p g))}
    (H : Homomorphism (ops p h d L) (ops p h g N) e) where
  abbrev DO : Ops (Element (field_values (field_of p d)))
  DO = ops p h d L

  abbrev GO : Ops (Element (field_values (field_of p g)))
  GO = ops p h g N

  abbrev lowered : Element (field_values (field_of p d)) → List (Element (residues p))
      → List (Element (field_values (field_of p d)))
  lowered b [] = DO.neg b ∷ []
  lowered b (c ∷ cs) = DO.add (of_residue p h d L c) (DO.neg b) ∷ map (of_residue p h d L) cs

  regroup : (u n y r : Element (field_values (field_of p g)))
      → (ops p h g N).add ((ops p h g N).add u n) ((ops p h g N).mul y r)
      ≡ (ops p h g N).add ((ops p h g N).add u ((ops p h g N).mul y r)) n
  regroup u n y r =
      let R = (laws p h g N).ring in
      let w = GO.mul y r in
      R.add_assoc u n w ∙ ap (GO.add u) (R.add_comm n w) ∙ sym (R.add_assoc u w n)

  value_of_lowered : (b : Element (field_values (field_of p d))) (cs : List (Element (residues p)))
      (y : Element (field_values (field_of p g)))
      → evaluate (ops p h g N) (map e (lowered b cs)) y
      ≡ (ops p h g N).add (evaluate (ops p h g N) (map (of_residue p h g N) cs) y)
      ((ops p h g N).neg (e b))
  value_of_lowered b [] y =
      ap₂ GO.add (H.neg b) (Rings.mul_zero (laws p h g N).ring y)
      ∙ (laws p h g N).ring.add_comm (GO.neg (e b)) GO.zero
  value_of_lowered b (c ∷ cs) y =
      let rest = evaluate GO (map (of_residue p h g N) cs) y in
      ap₂ (λ u w. GO.add u (GO.mul y w))
      (H.add (of_residue p h d L c) (DO.neg b)
      ∙ ap₂ GO.add (keeps_constants p h d L g N H c) (H.neg b))
      (ap (λ w. evaluate GO w y)
      (map_twice e (of_residue p h d L) (of_residue p h g N) (keeps_constants p h d L g N H) cs))
      ∙ regroup (of_residue p h g N c) (GO.neg (e b)) y rest

-- ---- three fields
module _ (p : ℕ) (h : IsPrime p) (d : List ℕ) (L : IsModulus p d) (f : List ℕ) (M : IsModulus p f)
    (k : List ℕ) (O : IsModulus p k) (s t : List (List ℕ))
    (B : IsEmbedding (field_of p d) (field_of p f) s)
    (C : IsEmbedding (field_of p d) (field_of p k) t) (g : List (List ℕ))
    (pg : IsPolynomial (field_values (field_of p d)) g)
    (divides : (q : List (List ℕ)) → IsPolynomial (field_values (field_of p d)) q
    → evaluate (field_values (field_of p f)).ops (map (apply (field_of p f) s) q)
    (generator (field_of p f)) ≡ (field_values (field_of p f)).ops.zero
    → Divides (field_values (field_of p d)) g q)
    (v : Element (field_values (field_of p k)))
    (root : evaluate (field_values (field_of p k)).ops (map (apply (field_of p k) t) g) v.0
    ≡ (field_values (field_of p k)).ops.zero) where
  abbrev x : Element (field_values (field_of p f))
  x = generator_element p h f M

  abbrev into_source : Element (field_values (field_of p d)) → Element (field_values (field_of p f))
  into_source = function_of p h d L f M s B

  abbrev into_target : Element (field_values (field_of p d)) → Element (field_values (field_of p k))
  into_target = function_of p h d L k O t C

  moved : (l : List (Element (field_values (field_of p d))))
      → evaluate (ops p h f M) (map (function_of p h d L f M s B) l) (generator_element p h f M)
      ≡ (ops p h f M).zero
      → evaluate (ops p h k O) (map (function_of p h d L k O t C) l) v ≡ (ops p h k O).zero
  moved = carried (propositional p h d L) (field_is p h d L) (propositional p h f M)
      (field_is p h f M).ring (laws p h f M).ring (propositional p h k O) (field_is p h k O).ring
      (laws p h k O).ring (function_homomorphism p h d L f M s B) (apply (field_of p f) s)
      (λ b. refl) (function_homomorphism p h d L k O t C) (apply (field_of p k) t) (λ b. refl)
      x v g pg divides root

  -- v is a root of the polynomial of E
  root_of_source : evaluate_by (residues p) (of_residue p h k O) (ops p h k O) (modulus p h f M) v
      ≡ (ops p h k O).zero
  root_of_source =
      let cs = coefficients (residues p) (modulus p h f M) in
      sym (ap (λ w. evaluate (ops p h k O) w v)
      (map_twice into_target (of_residue p h d L) (of_residue p h k O)
      (keeps_constants p h d L k O (function_homomorphism p h d L k O t C)) cs))
      ∙ moved (map (of_residue p h d L) cs)
      (ap (λ w. evaluate (ops p h f M) w x)
      (map_twice into_source (of_residue p h d L) (of_residue p h f M)
      (keeps_constants p h d L f M (function_homomorphism p h d L f M s B)) cs)
      ∙ generator_image p h f M f M (identity_homomorphism (ops p h f M)))

  -- the map of E that sends x to v agrees with t on D
  agrees_at : (b : Element (field_values (field_of p d)))
      → apply (field_of p k) (powers (field_of p k) v.0 (degree_of (field_of p f)))
      (apply (field_of p f) s b.0) ≡ apply (field_of p k) t b.0
  agrees_at b =
      let cs = digits_of p h f M (into_source b) in
      apply_powers p h f M k O v (into_source b)
      ∙ ap (λ y. y.0) (Rings.same_from_difference (laws p h k O).ring
      (evaluate (ops p h k O) (map (of_residue p h k O) cs) v) (into_target b)
      (sym (value_of_lowered p h d L k O (function_homomorphism p h d L k O t C) b cs v)
      ∙ moved (lowered p h d L f M (function_homomorphism p h d L f M s B) b cs)
      (value_of_lowered p h d L f M (function_homomorphism p h d L f M s B) b cs x
      ∙ ap (λ y. (ops p h f M).add y ((ops p h f M).neg (into_source b)))
      (own_value p h f M (into_source b))
      ∙ (laws p h f M).ring.add_neg (into_source b))))

  -- **a root gives an embedding, and**
  pub root_extends : IsEmbedding (field_of p f) (field_of p k)
      (powers (field_of p k) v.0 (degree_of (field_of p f)))
      × (apply (field_of p k) (powers (field_of p k) v.0 (degree_of (field_of p f)))
      (generator (field_of p f)) ≡ v.0)
      × ((b : List ℕ) → (field_values (field_of p d)).Valid b
      → apply (field_of p k) (powers (field_of p k) v.0 (degree_of (field_of p f)))
      (apply (field_of p f) s b) ≡ apply (field_of p k) t b)
  root_extends = (
    root_embedding p h f M k O v root_of_source,
    apply_root_embedding p h f M k O v root_of_source,
    λ b vb. agrees_at (b, vb),
  )

-- ---- the fields of the model
-- an embedding keeps values of polynomials
value_kept : (E F : Field) → IsFiniteField E → IsFiniteField F → (m : List (List ℕ))
    → IsEmbedding E F m → (ws : List (List ℕ)) → All (field_values E).Valid ws → (a : List ℕ)
    → (field_values E).Valid a
    → apply F m (evaluate (field_values E).ops ws a)
    ≡ evaluate (field_values F).ops (map (apply F m) ws) (apply F m a)
value_kept E F V W m A ws vs a va = of_two_fields
    (λ E F. IsEmbedding E F m → All (field_values E).Valid ws → (field_values E).Valid a
    → apply F m (evaluate (field_values E).ops ws a)
    ≡ evaluate (field_values F).ops (map (apply F m) ws) (apply F m a))
    (λ p h f M g N A vs va.
    let e = function_of p h f M g N m A in
    let l = elements (field_values (field_of p f)) ws vs in
    let list_is = elements_are (field_values (field_of p f)) ws vs in
    ap (apply (field_of p g) m)
    (ap (λ w. evaluate (field_values (field_of p f)).ops w a) (sym list_is)
    ∙ sym (evaluate-map (underlying_homomorphism (field_is p h f M).ring) l (a, va)))
    ∙ ap (λ y. y.0) (evaluate-map (function_homomorphism p h f M g N m A) l (a, va))
    ∙ evaluate-map (underlying_homomorphism (field_is p h g N).ring) (map e l) (e (a, va))
    ∙ ap (λ w. evaluate (field_values (field_of p g)).ops w (apply (field_of p g) m a))
    (map_map (underlying (field_values (field_of p g))) e (apply (field_of p g) m)
    (underlying (field_values (field_of p f))) (λ b. refl) l
    ∙ ap (map (apply (field_of p g) m)) list_is))
    E F V W A.same_characteristic A vs va

product_positive : (d r : ℕ) → 0 < d → 0 < r → 0 < d * r
product_positive d r l m = let h : 1 * 1 ≤ d * r = mul-le 1 1 d r l m in omega (arith, h)

module _ (D E F : Field) (T : IsFiniteField D) (U : IsFiniteField E) (W : IsFiniteField F)
    (s t : List (List ℕ)) (B : IsEmbedding D E s) (C : IsEmbedding D F t) (g : List (List ℕ))
    (M : IsMinimalOver D E s (generator E) g) where
  generator_valid : (field_values E).Valid (generator E)
  generator_valid = generator_is_value E E U U

  abbrev map_to : List ℕ → List (List ℕ)
  map_to v = powers F v (degree_of E)

  -- **a root of g, taken into F, extends t**
  pub root_restricts : (v : List ℕ) → (field_values F).Valid v
      → evaluate (field_values F).ops (map (apply F t) g) v ≡ (field_values F).ops.zero
      → IsEmbedding E F (powers F v (degree_of E))
      × (apply F (powers F v (degree_of E)) (generator E) ≡ v)
      × (comp F s (powers F v (degree_of E)) ≡ t)
  root_restricts v vv root =
      let found : IsEmbedding E F (map_to v) × (apply F (map_to v) (generator E) ≡ v)
      × ((b : List ℕ) → (field_values D).Valid b → apply F (map_to v) (apply E s b) ≡ apply F t b) =
      of_three_fields (λ D E F. IsEmbedding D E s → IsEmbedding D F t
      → IsPolynomial (field_values D) g
      → ((q : List (List ℕ)) → IsPolynomial (field_values D) q
      → evaluate (field_values E).ops (map (apply E s) q) (generator E) ≡ (field_values E).ops.zero
      → Divides (field_values D) g q)
      → (field_values F).Valid v
      → evaluate (field_values F).ops (map (apply F t) g) v ≡ (field_values F).ops.zero
      → IsEmbedding E F (powers F v (degree_of E))
      × (apply F (powers F v (degree_of E)) (generator E) ≡ v)
      × ((b : List ℕ) → (field_values D).Valid b
      → apply F (powers F v (degree_of E)) (apply E s b) ≡ apply F t b))
      (λ p h d L f M k O B C pg divides vv root.
      root_extends p h d L f M k O s t B C g pg divides (v, vv) root)
      D E F T U W B.same_characteristic (sym B.same_characteristic ∙ C.same_characteristic) B C
      M.polynomial
      ((subfield_minimals D E T U s B (generator E) generator_valid).divides g M) vv root in (
        found.0,
        found.1,
        embeddings_equal D F T W (comp F s (map_to v)) t
            (comp_embedding D E F T U W s (map_to v) B found.0) C
            (λ b vb. apply_comp D E F T U W s (map_to v) B found.0 b vb ∙ found.2 b vb),
      )

  -- **and what extends t sends the generator to a root**
  pub restricted_root : (v : List ℕ) → IsEmbedding E F (powers F v (degree_of E))
      → apply F (powers F v (degree_of E)) (generator E) ≡ v
      → comp F s (powers F v (degree_of E)) ≡ t
      → evaluate (field_values F).ops (map (apply F t) g) v ≡ (field_values F).ops.zero
  restricted_root v A sends agrees =
      let m = map_to v in
      ap₂ (λ ws a. evaluate (field_values F).ops ws a)
      (same_images g M.polynomial.0) (sym sends)
      ∙ sym (value_kept E F U W m A (map (apply E s) g) (images_valid g M.polynomial.0) (generator E)
      generator_valid)
      ∙ ap (apply F m) M.vanishes ∙ zero_kept E F U W m A
    where
      same_images : (ws : List (List ℕ)) → All (field_values D).Valid ws
          → map (apply F t) ws ≡ map (apply F (powers F v (degree_of E))) (map (apply E s) ws)
      same_images [] vs = refl
      same_images (w ∷ ws) vs = ap₂ ◌∷◌
          (ap (λ n. apply F n w) (sym agrees)
          ∙ apply_comp D E F T U W s (map_to v) B A w (All-head (field_values D).Valid w ws vs))
          (same_images ws (All-tail (field_values D).Valid w ws vs))

      images_valid : (ws : List (List ℕ)) → All (field_values D).Valid ws
          → All (field_values E).Valid (map (apply E s) ws)
      images_valid ws vs = All-map (field_values E).Valid (apply E s) ws
          (λ k e l. apply_valid D E T U s B (slice_index_or ws k e) (vs k e l))

  -- **the degree of g is that of E over D**
  pub length_restricted : length g ≡ degree_of E / degree_of D + 1
  length_restricted =
      let total = degrees_multiply D E T U s B in
      let S = subfield_short D E T U s B (generator E) generator_valid
      (degree_of E / degree_of D) total in
      let longer : length g ≤ length S.0 =
      M.least S.0 S.1.minimal.polynomial S.1.minimal.monic S.1.minimal.vanishes in
      let shorter : length S.0 ≤ length g = S.1.minimal.least g M.polynomial M.monic M.vanishes in
      let positive : 0 < degree_of D * S.1.degree = product_positive (degree_of D) S.1.degree
      (let l : 1 < length D.polynomial = T.irreducible.not_constant in omega arith) S.1.positive in
      let returns : degree_of E ≤ degree_of D * S.1.degree =
      le_of_dvd positive ((generator_returns E U (degree_of D * S.1.degree)).0 S.2) in
      let least : degree_of E / degree_of D ≤ S.1.degree =
      div-le_of_le-mul (degree_of D) returns in
      omega (arith, longer, shorter, S.1.long, S.1.small, least)

-- what the polynomial of the restrictions keeps
pub record IsRestricted (D E F : Field) (s t g : List (List ℕ)) : Type 0 where
  pub monic : IsMonic (field_values F) g
  pub count : length g ≡ degree_of E / degree_of D + 1
  pub roots : (v : List ℕ) → (field_values F).Valid v
      → (evaluate (field_values F).ops g v ≡ (field_values F).ops.zero)
      ↔ (IsEmbedding E F (powers F v (degree_of E))
      × (apply F (powers F v (degree_of E)) (generator E) ≡ v)
      × (comp F s (powers F v (degree_of E)) ≡ t))

module _ (D E F : Field) (T : IsFiniteField D) (U : IsFiniteField E) (W : IsFiniteField F)
    (s t : List (List ℕ)) (B : IsEmbedding D E s) (C : IsEmbedding D F t) (g : List (List ℕ))
    (M : IsMinimalOver D E s (generator E) g) where
  abbrev images : List (List ℕ)
  images = map (apply F t) g

  monic_images : IsMonic (field_values F) (map (apply F t) g)
  monic_images =
      let long = length_restricted D E F T U W s t B C g M in
      let within : length g - 1 < length g = omega (arith, long) in
      leading_at (field_values F).ops images
      ∙ ap (λ n. slice_index_or images (n - 1) (field_values F).ops.zero) (length-map g (apply F t))
      ∙ get_or-map (apply F t) g (length g - 1) (field_values D).ops.zero (field_values F).ops.zero within
      ∙ ap (apply F t) (sym (leading_at (field_values D).ops g) ∙ M.monic) ∙ C.one

  -- **the polynomial of the restrictions**
  pub restricted_facts : (f : List (List ℕ)) → f ≡ trim (field_values F).ops (map (apply F t) g)
      → IsRestricted D E F s t f
  restricted_facts f is =
      let F' = field_at_values F.characteristic W.characteristic F.polynomial W.monic W.irreducible in
      let valid : All (field_values F).Valid images =
      All-map (field_values F).Valid (apply F t) g
      (λ k e l. apply_valid D F T W t C (slice_index_or g k e) (M.polynomial.0 k e l)) in
      let same : images ≡ f =
      sym (is ∙ trimmed_from_leading (values_propositional (residues_propositional F.characteristic) F.polynomial)
      F'.ring images valid (λ z. F'.one_not_zero (sym monic_images ∙ z))) in
      subst (IsRestricted D E F s t) same (record {
        monic = monic_images;
        count = length-map g (apply F t) ∙ length_restricted D E F T U W s t B C g M;
        roots = λ v vv. (
          root_restricts D E F T U W s t B C g M v vv,
          λ h. restricted_root D E F T U W s t B C g M v h.0 h.1 h.2,
        );
      })
