-- The residues modulo a prime are a finite field, and so are the values modulo an
-- irreducible polynomial over a finite
-- field, with Frobenius of order exactly the degree on the generator.
use Rattle.std.proofs.Common.{◌≡◌, ◌≢◌, ⊎_elim, ℕ, ◌-◌, ◌*◌, ◌^◌, ◌%◌, ◌<◌, ◌≤◌, List, length, map, ap, sym, ◌∙◌, subst, arith, mod-lt, slice_index_or}
use Rattle.std.proofs.Math.Nat.{mod-eq_of_lt, mul-pos}
use Rattle.std.proofs.lemmas.List.{length-map}
use Rattle.std.proofs.lemmas.Bool.{cases_lt}
use Rattle.std.specs.List.{range_with_len}
use Rattle.std.proofs.lemmas.List.FromFn.{length-map-range_with_len, get_or-map-range_with_len}
use Rattle.alg_model.specs.Coefficients.{Ops, Carrier, IsPrime, power, times}
use Rattle.alg_model.specs.Polynomials.{evaluate, leading}
use Rattle.alg_model.specs.Factors.{IsMonic, IsIrreducible}
use Rattle.alg_model.specs.Values.{degree, values}
use Rattle.alg_model.specs.Fields.{IsField, IsRing}
use Rattle.alg_rings.specs.Laws.{IsPropositional, FieldLaws}
use Rattle.alg_rings.proofs.Elements.{Element, underlying, element_ops, element_field, underlying_injective, underlying_lists_injective, elements, elements_are, underlying_valid, underlying_homomorphism}
use Rattle.alg_rings.proofs.Homomorphisms.{Homomorphism, leading-map}
use Rattle.alg_rings.proofs.ResidueFields.{prime_residues_field, residues_propositional}
use Rattle.alg_rings.proofs.Divisors.{Polynomial}
use Rattle.alg_rings.proofs.Rings.{equal_or_not}
use Rattle.alg_fields.proofs.OverResidues.{first_power}
use Rattle.alg_fields.proofs.FiniteFields.{FieldOfSize, residues_characteristic, fermat}
use Rattle.alg_fields.proofs.PowerRoots.{image_characteristic}
use Rattle.alg_fields.proofs.ValueConstants.{constant_value, constant_value_homomorphism}
use Rattle.alg_finite.proofs.Enumerations.{Enumeration, Repeats, digits, number, length_digits, number_below, digits_number, number_digits, repeats_or_distinct, members_distinct}
use Rattle.alg_finite.proofs.FiniteField.{FiniteField, frobenius, frobenius_add, frobenius_of_power, frobenius_homomorphism, frobenius_cancel, root_bound_at, pow_mul, pow_one, pow_strict, pow_positive, above_one}
use Rattle.alg_finite.proofs.Extensions.{fixed_few, frobenius_of_value}
use Rattle.alg_finite.proofs.Values

-- **the residues are a finite field**
module _ (p : ℕ) (h : IsPrime p) where
  -- the residues modulo a prime p are a finite field with p members
  pub residues_finite : FiniteField (element_ops (prime_residues_field p h).ring) p 1
  residues_finite = record {
    field = element_field (residues_propositional p) (prime_residues_field p h);
    prime = h;
    characteristic = residues_characteristic p (prime_residues_field p h).ring;
    positive = omega arith;
    members = record {
      at = λ i. (i % p, mod-lt i (omega (arith, h.above_one)));
      index = λ a. a.0;
      index_below = λ a. subst (λ n. a.0 < n) (first_power p) a.1;
      at_index = λ a. underlying_injective (residues_propositional p) _ _ (mod-eq_of_lt a.1);
      index_at = λ i l. mod-eq_of_lt (subst (λ n. i < n) (pow_one p) l);
    };
    fixed = λ a. ap (power (element_ops (prime_residues_field p h).ring) a) (pow_one p)
        ∙ fermat p (prime_residues_field p h).ring h a;
  }

-- a finite field in the form that Berlekamp's facts ask for
pub field_of_size : {A : Type 0} {c : Carrier A} (R : IsRing c) {p n : ℕ}
    → FiniteField (element_ops R) p n → FieldOfSize R (p ^ n)
field_of_size {A} {c} R {p} {n} K = record {
  members = map K.members.at (range_with_len 0 (p ^ n));
  complete = λ a. (
    K.members.index a,
    omega (arith, long, K.members.index_below a),
    here (K.members.index a) a (K.members.index_below a) ∙ K.members.at_index a,
  );
  distinct = λ i j d l k e. let s : j < p ^ n = omega (arith, long) in
      members_distinct K.members i j l s (sym (here i d (omega arith)) ∙ e ∙ here j d s);
  count = long;
  above_one = above_one K;
  fixed = K.fixed;
}
  where
    long : length (map K.members.at (range_with_len 0 (p ^ n))) ≡ p ^ n
    long = length-map-range_with_len K.members.at 0 (p ^ n)

    here : (i : ℕ) (d : Element c) → i < p ^ n
        → slice_index_or (map K.members.at (range_with_len 0 (p ^ n))) i d ≡ K.members.at i
    here i d l = get_or-map-range_with_len K.members.at 0 (p ^ n) i i d l (omega arith)

module _ {A : Type 0} {c : Carrier A} (P : IsPropositional c) (F : IsField c) {p m : ℕ}
    (K : FiniteField (element_ops F.ring) p m)
    (f : Polynomial c) (not_constant : 1 < length f.0) (monic : IsMonic c f.0)
    (irreducible : IsIrreducible c f.0) where
  abbrev W : Ops (Element (values c f.0))
  W = Values.value_element_ops P F f not_constant monic

  abbrev L : FieldLaws (Values.value_element_ops P F f not_constant monic)
  L = Values.value_laws P F f not_constant monic irreducible

  abbrev h : Element c → Element (values c f.0)
  h = constant_value P F f not_constant monic

  abbrev H : Homomorphism (element_ops F.ring) (Values.value_element_ops P F f not_constant monic)
      (constant_value P F f not_constant monic)
  H = constant_value_homomorphism P F f not_constant monic

  abbrev x : Element (values c f.0)
  x = Values.generator_element P F f not_constant monic

  abbrev G : List (Element c)
  G = elements c f.0 f.1.0

  values_characteristic : times (Values.value_element_ops P F f not_constant monic) p
      (Values.value_element_ops P F f not_constant monic).one
      ≡ (Values.value_element_ops P F f not_constant monic).zero
  values_characteristic = image_characteristic H p K.characteristic

  -- ---- the values by number
  length_elements : (v : Element (values c f.0)) → length (elements c v.0 v.1.0) ≡ degree f.0
  length_elements v = omega (
    arith,
    length-map (elements c v.0 v.1.0) (underlying c),
    ap length (elements_are c v.0 v.1.0),
    v.1.1,
  )

  value_with : ℕ → Element (values c f.0)
  value_with i = (
    map (underlying c) (digits K.members (degree f.0) i),
    (
      underlying_valid c (digits K.members (degree f.0) i),
      length-map (digits K.members (degree f.0) i) (underlying c)
          ∙ length_digits K.members (degree f.0) i,
    ),
  )

  number_of : Element (values c f.0) → ℕ
  number_of v = number K.members (elements c v.0 v.1.0)

  members : Enumeration (Element (values c f.0)) (p ^ (m * degree f.0))
  unfolding value_with number_of
  members = record {
    at = value_with;
    index = number_of;
    index_below = λ v. subst (λ n. number_of v < n)
        (ap (λ d. (p ^ m) ^ d) (length_elements v) ∙ pow_mul p m (degree f.0))
        (number_below K.members (elements c v.0 v.1.0));
    at_index = λ v. Values.same_value P F f not_constant monic (value_with (number_of v)) v
        (ap (map (underlying c)) (ap (λ d. digits K.members d (number_of v)) (sym (length_elements v))
        ∙ digits_number K.members (elements c v.0 v.1.0))
        ∙ elements_are c v.0 v.1.0);
    index_at = λ i l. ap (number K.members)
        (underlying_lists_injective P _ _ (elements_are c (value_with i).0 (value_with i).1.0))
        ∙ number_digits K.members (degree f.0) i (let l : 1 < p ^ m = above_one K in omega arith)
        (subst (λ n. i < n) (sym (pow_mul p m (degree f.0))) l);
  }

  -- ---- Frobenius on the generator
  T : Homomorphism (Values.value_element_ops P F f not_constant monic)
      (Values.value_element_ops P F f not_constant monic)
      (λ a. power (Values.value_element_ops P F f not_constant monic) a (p ^ m))
  T = frobenius_homomorphism L K.prime values_characteristic m

  conjugate_is_root : (i : ℕ) → evaluate W (map h G) (frobenius W (p ^ m) i x) ≡ W.zero
  conjugate_is_root i =
      frobenius_of_value H K L T G i x
      ∙ ap (frobenius W (p ^ m) i) (Values.generator_is_root P F f not_constant monic)
      ∙ frobenius_of_power L.ring p m i W.zero
      ∙ (frobenius_homomorphism L K.prime values_characteristic (m * i)).zero

  leading_not_zero : leading W (map h G) ≢ W.zero
  leading_not_zero z = L.one_not_zero (sym (sym (leading-map H G) ∙ ap h leading_one ∙ H.one) ∙ z)
    where
      leading_one : leading (element_ops F.ring) G ≡ (element_ops F.ring).one
      leading_one = underlying_injective P _ _
          (leading-map (underlying_homomorphism F.ring) G ∙ ap (leading c.ops) (elements_are c f.0 f.1.0)
          ∙ monic)

  length_image : length (map h G) ≡ length f.0
  length_image = omega (
    arith,
    length-map G h,
    length-map G (underlying c),
    ap length (elements_are c f.0 f.1.0),
  )

  -- the generator and its powers q, q^2, .., q^d aren't all different
  repeated : Repeats (λ i. frobenius W (p ^ m) i x) (length f.0)
  repeated = ⊎_elim (λ r. r)
      (λ d. absurd (let l : length f.0 < length (map h G) =
      root_bound_at L (map h G) leading_not_zero (λ i. frobenius W (p ^ m) i x) (length f.0) d
      (λ i l. conjugate_is_root i) in omega (arith, length_image)))
      (repeats_or_distinct (equal_or_not L.ring) (λ i. frobenius W (p ^ m) i x) (length f.0))

  -- what brings the generator back brings all values back
  all_return : (k : ℕ) → frobenius W (p ^ m) k x ≡ x → (v : Element (values c f.0))
      → frobenius W (p ^ m) k v ≡ v
  all_return k e v =
      let g : (g : List (Element c)) × (evaluate W (map h g) x ≡ v) =
      Values.value_from_generator P F f not_constant monic v in
      ap (frobenius W (p ^ m) k) (sym g.1) ∙ sym (frobenius_of_value H K L T g.0 k x)
      ∙ ap (evaluate W (map h g.0)) e ∙ g.1

  -- **no fewer than d powers of Frobenius bring the generator back**
  pub generator_period : (k : ℕ) → 0 < k → frobenius W (p ^ m) k x ≡ x → degree f.0 ≤ k
  generator_period k l e = ⊎_elim
      (λ s. absurd (let few : p ^ (m * degree f.0) ≤ (p ^ m) ^ k =
      fixed_few L ((p ^ m) ^ k) (pow_strict_one k l) members.at (p ^ (m * degree f.0))
      (members_distinct members) (λ i _. all_return k e (members.at i)) in
      let more : (p ^ m) ^ k < (p ^ m) ^ degree f.0 =
      pow_strict (p ^ m) k (degree f.0) (above_one K) s in
      omega (arith, pow_mul p m (degree f.0))))
      (λ s. s) (cases_lt k (degree f.0))
    where
      pow_strict_one : (k : ℕ) → 0 < k → 1 < (p ^ m) ^ k
      pow_strict_one k l = let r : (p ^ m) ^ 0 < (p ^ m) ^ k =
          pow_strict (p ^ m) 0 k (above_one K) l in
          let s : 0 < (p ^ m) ^ 0 = pow_positive (p ^ m) 0 (above_one K) in omega arith

  -- **and d of them do**
  pub generator_returns : frobenius W (p ^ m) (degree f.0) x ≡ x
  generator_returns =
      let r : Repeats (λ i. frobenius W (p ^ m) i x) (length f.0) = repeated in
      let k : ℕ = r.second - r.first in
      let back : frobenius W (p ^ m) k x ≡ x =
      frobenius_cancel L K.prime values_characteristic m r.first (frobenius W (p ^ m) k x) x
      (sym (frobenius_add L.ring (p ^ m) r.first k x)
      ∙ ap (λ j. frobenius W (p ^ m) j x) (omega (arith, r.rising)) ∙ sym r.same) in
      let least : degree f.0 ≤ k = generator_period k (omega (arith, r.rising)) back in
      ap (λ j. frobenius W (p ^ m) j x) (omega (arith, r.within, r.rising)) ∙ back

  -- **the values are a finite field**
  pub values_finite : FiniteField (Values.value_element_ops P F f not_constant monic) p
      (m * degree f.0)
  values_finite = record {
    field = L;
    prime = K.prime;
    characteristic = values_characteristic;
    positive = mul-pos K.positive (omega arith);
    members = members;
    fixed = λ a. sym (frobenius_of_power L.ring p m (degree f.0) a)
        ∙ all_return (degree f.0) generator_returns a;
  }
