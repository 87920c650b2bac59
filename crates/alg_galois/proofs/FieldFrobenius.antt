-- Frobenius on the fields of the model: its order, two maps that keep the operations differ by a
-- power of it, which is determined
-- modulo the degree, and images are what a power of it fixes.
use Rattle.std.proofs.Common.{◌≡◌, ⊎_elim, ℕ, ◌/◌, ◌%◌, ◌^◌, ◌<◌, List, map, ap, sym, ◌∙◌, subst, arith, mod-lt}
use Rattle.std.proofs.lemmas.Bool.{cases_lt}
use Rattle.std.proofs.Math.Nat.{div-add-mod}
use Rattle.alg_model.specs.Coefficients.{Ops, residues, IsPrime}
use Rattle.alg_model.specs.Polynomials.{evaluate}
use Rattle.alg_model.specs.Values.{degree}
use Rattle.alg_model.specs.Maps.{field_values, degree_of}
use Rattle.alg_rings.proofs.Elements.{Element}
use Rattle.alg_rings.proofs.Homomorphisms.{Homomorphism, power-map}
use Rattle.alg_rings.proofs.ResidueFields.{prime_residues_field, residues_propositional}
use Rattle.alg_finite.proofs.FiniteField.{FiniteField, frobenius, frobenius_homomorphism, frobenius_remainder, frobenius_multiple, pow_one, above_one}
use Rattle.alg_finite.proofs.FiniteValues.{residues_finite}
use Rattle.alg_finite.proofs.Extensions.{fixed_is_image}
use Rattle.alg_finite.proofs.Orbits.{Period, orbit_distinct, period_exists, period_divides}
use Rattle.alg_finite.proofs.Evaluation.{evaluate_by}
use Rattle.alg_finite.proofs.MinimalPolynomials.{root_period, roots_are_orbit}
use Rattle.alg_finite.proofs.RootExistence.{root_exists, degree_divides}
use Rattle.alg_galois.proofs.Fields.{IsModulus, field_of, modulus, ops, laws, of_residue, of_residue_homomorphism, finite, finite_over_prime}
use Rattle.alg_galois.proofs.FieldEmbeddings.{identity_homomorphism, composed, generator_element, digits_of, determined, generator_image}

-- ---- one field
module _ (p : ℕ) (h : IsPrime p) (g : List ℕ) (N : IsModulus p g) where
  -- **each power of Frobenius keeps the operations**
  pub frobenius_keeps : (t : ℕ)
      → Homomorphism (ops p h g N) (ops p h g N) (frobenius (ops p h g N) p t)
  frobenius_keeps t = frobenius_homomorphism (laws p h g N) (finite p h g N).prime
      (finite p h g N).characteristic t

  -- **a value that comes back after i and after j powers comes back after gcd(i, j)**
  pub frobenius_returns_gcd : (i j k : ℕ) → ((d : ℕ) → i % d ≡ 0 → j % d ≡ 0 → k % d ≡ 0)
      → (a : Element (field_values (field_of p g)))
      → frobenius (ops p h g N) p i a ≡ a → frobenius (ops p h g N) p j a ≡ a
      → frobenius (ops p h g N) p k a ≡ a
  frobenius_returns_gcd i j k common a ei ej =
      let o = ops p h g N in
      let K : FiniteField (ops p h g N) p (degree_of (field_of p g)) = finite p h g N in
      let d : (d : ℕ) × Period (ops p h g N) (p ^ 1) a d = period_exists K 1 a in
      let divides : (n : ℕ) → frobenius (ops p h g N) p n a ≡ a → n % d.0 ≡ 0 =
      λ n e. period_divides K 1 a d.0 d.1 n (ap (λ q. frobenius o q n a) (pow_one p) ∙ e) in
      let back : frobenius (ops p h g N) p d.0 a ≡ a =
      ap (λ q. frobenius o q d.0 a) (sym (pow_one p)) ∙ d.1.returns in
      ap (λ n. frobenius o p n a)
      (sym (div-add-mod k d.0) ∙ omega (arith, common d.0 (divides i ei) (divides j ej)))
      ∙ frobenius_multiple (laws p h g N).ring p d.0 a back (k / d.0)

  -- a value that comes back after i powers comes back after each multiple of i
  pub frobenius_returns_multiple : (i n : ℕ) → n % i ≡ 0
      → (a : Element (field_values (field_of p g)))
      → frobenius (ops p h g N) p i a ≡ a → frobenius (ops p h g N) p n a ≡ a
  frobenius_returns_multiple i n e a r =
      ap (λ j. frobenius (ops p h g N) p j a) (sym (div-add-mod n i) ∙ omega (arith, e))
      ∙ frobenius_multiple (laws p h g N).ring p i a r (n / i)

-- ---- two fields
module _ (p : ℕ) (h : IsPrime p) (f : List ℕ) (M : IsModulus p f) (g : List ℕ)
    (N : IsModulus p g) where
  abbrev FO : Ops (Element (field_values (field_of p g)))
  FO = ops p h g N

  abbrev x : Element (field_values (field_of p f))
  x = generator_element p h f M

  -- **the polynomial of E has a root in F where the degree of E divides that of F**
  pub field_root_exists : degree_of (field_of p g) % degree_of (field_of p f) ≡ 0
      → (v : Element (field_values (field_of p g)))
      × (evaluate_by (residues p) (of_residue p h g N) (ops p h g N) (modulus p h f M) v
      ≡ (ops p h g N).zero)
  field_root_exists e =
      root_exists (residues_propositional p) (prime_residues_field p h) (residues_finite p h)
      (modulus p h f M) M.irreducible.not_constant M.monic M.irreducible
      (degree_of (field_of p g)) (finite_over_prime p h g N) (of_residue_homomorphism p h g N)
      (degree_of (field_of p g) / degree_of (field_of p f))
      (omega (arith, div-add-mod (degree_of (field_of p g)) (degree_of (field_of p f)), e))

  module _ (v : Element (field_values (field_of p g)))
      (root : evaluate_by (residues p) (of_residue p h g N) (ops p h g N) (modulus p h f M) v
      ≡ (ops p h g N).zero) where
    -- **and only there**
    pub field_degree_divides : degree_of (field_of p g) % degree_of (field_of p f) ≡ 0
    field_degree_divides =
        degree_divides (residues_propositional p) (prime_residues_field p h) (residues_finite p h)
        (modulus p h f M) M.irreducible.not_constant M.monic M.irreducible
        (degree_of (field_of p g)) (finite_over_prime p h g N)
        (of_residue_homomorphism p h g N) v root

    -- **a root comes back after exactly as many powers of Frobenius as the degree**
    pub field_root_period : Period (ops p h g N) p v (degree_of (field_of p f))
    field_root_period = subst (λ q. Period FO q v (degree f)) (pow_one p)
        (root_period (residues_propositional p) (prime_residues_field p h) (residues_finite p h)
        (finite p h g N) (of_residue_homomorphism p h g N)
        (modulus p h f M) M.monic M.irreducible v root)

    -- **all roots are powers of Frobenius of one**
    pub field_roots_are_orbit : (w : Element (field_values (field_of p g)))
        → evaluate_by (residues p) (of_residue p h g N) (ops p h g N) (modulus p h f M) w
        ≡ (ops p h g N).zero
        → (t : ℕ) × (t < degree_of (field_of p f)) × (frobenius (ops p h g N) p t v ≡ w)
    field_roots_are_orbit w e =
        let r : (i : ℕ) × (i < degree f) × (frobenius (ops p h g N) (p ^ 1) i v ≡ w) =
        roots_are_orbit (residues_propositional p) (prime_residues_field p h) (residues_finite p h)
        (finite p h g N) (of_residue_homomorphism p h g N)
        (modulus p h f M) M.monic M.irreducible v root w e in
        (r.0, r.1, ap (λ q. frobenius FO q r.0 v) (sym (pow_one p)) ∙ r.2)

    -- powers of Frobenius that agree modulo the degree agree on a root
    pub same_powers_on_root : (s t : ℕ)
        → s % degree_of (field_of p f) ≡ t % degree_of (field_of p f)
        → frobenius (ops p h g N) p s v ≡ frobenius (ops p h g N) p t v
    same_powers_on_root s t e =
        frobenius_remainder (laws p h g N).ring p (degree_of (field_of p f)) v
        field_root_period.returns s
        ∙ ap (λ i. frobenius FO p i v) e
        ∙ sym (frobenius_remainder (laws p h g N).ring p (degree_of (field_of p f)) v
        field_root_period.returns t)

    -- and only these do
    pub powers_agree_on_root : (s t : ℕ)
        → frobenius (ops p h g N) p s v ≡ frobenius (ops p h g N) p t v
        → s % degree_of (field_of p f) ≡ t % degree_of (field_of p f)
    powers_agree_on_root s t e = ⊎_elim
        (λ l. absurd (differ (s % d) (t % d) l (mod-lt t positive) same))
        (λ l. ⊎_elim (λ k. absurd (differ (t % d) (s % d) k (mod-lt s positive) (sym same)))
        (λ k. omega arith) (cases_lt (t % d) (s % d)))
        (cases_lt (s % d) (t % d))
      where
        d : ℕ
        d = degree_of (field_of p f)

        D : Period (ops p h g N) p v (degree_of (field_of p f))
        D = field_root_period

        positive : 0 < degree_of (field_of p f)
        positive = D.positive

        same : frobenius (ops p h g N) p (s % degree_of (field_of p f)) v
            ≡ frobenius (ops p h g N) p (t % degree_of (field_of p f)) v
        same = sym (frobenius_remainder (laws p h g N).ring p d v D.returns s) ∙ e
            ∙ frobenius_remainder (laws p h g N).ring p d v D.returns t

        differ : (i j : ℕ) → i < j → j < degree_of (field_of p f)
            → frobenius (ops p h g N) p i v ≡ frobenius (ops p h g N) p j v → ⊥
        differ i j l k r = orbit_distinct (finite p h g N) 1 v d
            (subst (λ q. Period FO q v d) (sym (pow_one p)) D) i j l k
            (ap (λ q. frobenius FO q i v) (pow_one p) ∙ r
            ∙ ap (λ q. frobenius FO q j v) (sym (pow_one p)))

  -- maps with one image of the generator are equal
  pub same_from_generator : {e d : Element (field_values (field_of p f))
      → Element (field_values (field_of p g))} → Homomorphism (ops p h f M) (ops p h g N) e
      → Homomorphism (ops p h f M) (ops p h g N) d
      → e (generator_element p h f M) ≡ d (generator_element p h f M)
      → (a : Element (field_values (field_of p f))) → e a ≡ d a
  same_from_generator {e} {d} H G s a =
      determined p h f M g N H a
      ∙ ap (evaluate FO (map (of_residue p h g N) (digits_of p h f M a))) s
      ∙ sym (determined p h f M g N G a)

  module _ {e : Element (field_values (field_of p f)) → Element (field_values (field_of p g))}
      (H : Homomorphism (ops p h f M) (ops p h g N) e) where
    -- **images are what the power of Frobenius by the degree fixes**
    pub image_returns : (a : Element (field_values (field_of p f)))
        → frobenius (ops p h g N) p (degree_of (field_of p f)) (e a) ≡ e a
    image_returns a = sym (power-map H a (p ^ degree_of (field_of p f)))
        ∙ ap e ((finite p h f M).fixed a)

    -- what it fixes is an image
    pub returning_is_image : (b : Element (field_values (field_of p g)))
        → frobenius (ops p h g N) p (degree_of (field_of p f)) b ≡ b
        → (a : Element (field_values (field_of p f))) × (e a ≡ b)
    returning_is_image b r =
        fixed_is_image H (finite p h f M) (laws p h g N) (above_one (finite p h f M)) b r

    -- after a map, a power of Frobenius keeps the operations
    pub after_frobenius : (t : ℕ)
        → Homomorphism (ops p h f M) (ops p h g N) (λ a. frobenius (ops p h g N) p t (e a))
    after_frobenius t = composed H (frobenius_keeps p h g N t)

    -- **two maps differ by a power of Frobenius**
    pub differ_by_frobenius : {d : Element (field_values (field_of p f))
        → Element (field_values (field_of p g))} → Homomorphism (ops p h f M) (ops p h g N) d
        → (t : ℕ) × (t < degree_of (field_of p f))
        × ((a : Element (field_values (field_of p f))) → d a ≡ frobenius (ops p h g N) p t (e a))
    differ_by_frobenius {d} G =
        let r : (t : ℕ) × (t < degree_of (field_of p f))
        × (frobenius (ops p h g N) p t (e (generator_element p h f M))
        ≡ d (generator_element p h f M)) =
        field_roots_are_orbit (e x) (generator_image p h f M g N H) (d x)
        (generator_image p h f M g N G) in
        (r.0, r.1, same_from_generator G (after_frobenius r.0) (sym r.2))

    -- **powers of Frobenius after a map agree exactly if they agree modulo the degree**
    pub powers_agree : (s t : ℕ) → s % degree_of (field_of p f) ≡ t % degree_of (field_of p f)
        → (a : Element (field_values (field_of p f)))
        → frobenius (ops p h g N) p s (e a) ≡ frobenius (ops p h g N) p t (e a)
    powers_agree s t r a =
        frobenius_remainder (laws p h g N).ring p (degree_of (field_of p f)) (e a)
        (image_returns a) s
        ∙ ap (λ i. frobenius FO p i (e a)) r
        ∙ sym (frobenius_remainder (laws p h g N).ring p (degree_of (field_of p f)) (e a)
        (image_returns a) t)

    -- and only then
    pub remainders_agree : (s t : ℕ)
        → ((a : Element (field_values (field_of p f)))
        → frobenius (ops p h g N) p s (e a) ≡ frobenius (ops p h g N) p t (e a))
        → s % degree_of (field_of p f) ≡ t % degree_of (field_of p f)
    remainders_agree s t r = powers_agree_on_root (e x) (generator_image p h f M g N H) s t (r x)

-- **no fewer powers of Frobenius than the degree bring the generator back**
module _ (p : ℕ) (h : IsPrime p) (g : List ℕ) (N : IsModulus p g) where
  -- the period of the generator is the degree
  pub generator_period : Period (ops p h g N) p (generator_element p h g N)
      (degree_of (field_of p g))
  generator_period = field_root_period p h g N g N (generator_element p h g N)
      (generator_image p h g N g N (identity_homomorphism (ops p h g N)))
