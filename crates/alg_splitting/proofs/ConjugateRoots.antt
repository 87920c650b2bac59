-- The roots of a monic irreducible polynomial f over the prime field: the conjugates of one.
use Rattle.std.proofs.Common.{◌≡◌, ◌≢◌, ◌↔◌, ℕ, ◌%◌, ◌^◌, ◌<◌, List, [], length, slice_index_or, AllPairs, refl, ap, sym, ◌∙◌, subst, arith}
use Rattle.std.specs.List.{Contains}
use Rattle.std.proofs.Math.Nat.{pow-zero, mod-eq_of_lt, mod_self, zero-mod}
use Rattle.std.proofs.lemmas.List.FromFn.{length-map-range_with_len, get_or-map-range_with_len}
use Rattle.std.proofs.lemmas.List.Elements.{All-from_get_or}
use Prim.Native.Nat.{◌∣◌}
use Rattle.alg_model.specs.Coefficients.{power, residues}
use Rattle.alg_model.specs.Factors.{IsPolynomial, IsMonic, IsIrreducible, Divides}
use Rattle.alg_model.specs.Values.{degree}
use Rattle.alg_model.specs.Maps.{Field, IsFiniteField, field_values, degree_of, constants}
use Rattle.alg_model.specs.Roots.{IsRoot}
use Rattle.alg_model.specs.Conjugates.{conjugates}
use Rattle.alg_galois.proofs.Fields.{field_of}
use Rattle.alg_galois.proofs.EmbeddingRoots.{root_exists, root_degree_divides, roots_are_powers, root_powers_agree, powers_are_roots}
use Rattle.alg_splitting.specs.RootLists.{IsRootList}
use Rattle.alg_splitting.specs.PrivateSearch.{Splits}
use Rattle.alg_splitting.proofs.ValueLaws.{values_ring}
use Rattle.alg_splitting.proofs.ConstantPolynomials.{constants_polynomial, length_constants}
use Rattle.alg_splitting.proofs.SplitPolynomials.{split_divisor}
use Rattle.alg_splitting.proofs.RootLists.{root_list_length}

module _ (F : Field) (W : IsFiniteField F) (f : List ℕ)
    (monic : IsMonic (residues F.characteristic) f)
    (irreducible : IsIrreducible (residues F.characteristic) f) where
  -- f gives a field of its own
  abbrev E : Field
  E = field_of F.characteristic f

  abbrev V : IsFiniteField (field_of F.characteristic f)
  V = record { characteristic = W.characteristic; monic = monic; irreducible = irreducible }

  module _ (r : List ℕ) (root : IsRoot F (constants F f) r) where
    abbrev orbit : List (List ℕ)
    orbit = conjugates (field_values F).ops F.characteristic (degree f) r

    length_orbit :
        length (conjugates (field_values F).ops F.characteristic (degree f) r) ≡ degree f
    length_orbit = length-map-range_with_len
        (λ i. power (field_values F).ops r (F.characteristic ^ i)) 0 (degree f)

    orbit_at : (k : ℕ) (d : List ℕ) → k < degree f
        → slice_index_or (conjugates (field_values F).ops F.characteristic (degree f) r) k d
        ≡ power (field_values F).ops r (F.characteristic ^ k)
    orbit_at k d l = get_or-map-range_with_len
        (λ i. power (field_values F).ops r (F.characteristic ^ i)) 0 (degree f) k k d l
        (omega arith)

    power_root : (k : ℕ)
        → IsRoot F (constants F f) (power (field_values F).ops r (F.characteristic ^ k))
    power_root k = powers_are_roots F W f irreducible.polynomial r root k

    -- **r, r^p, .., as many as the degree, are the roots**
    pub conjugates_are_roots : (v : List ℕ)
        → Contains (conjugates (field_values F).ops F.characteristic (degree f) r) v
        ↔ IsRoot F (constants F f) v
    conjugates_are_roots v = (
      (λ (k, l, e). subst (IsRoot F (constants F f))
          (sym (orbit_at k v (omega (arith, length_orbit))) ∙ e) (power_root k)),
      (λ s. let (k, l, e) = roots_are_powers E F V W refl r v root s in
          (k, omega (arith, length_orbit), orbit_at k v l ∙ e)),
    )

    -- **they are different**
    pub conjugates_differ : AllPairs (λ a b. a ≢ b)
        (conjugates (field_values F).ops F.characteristic (degree f) r)
    conjugates_differ = λ i j d l k e.
        let m : j < degree f = omega (arith, length_orbit) in
        let n : i < degree f = omega arith in
        let same : i % degree f ≡ j % degree f = (root_powers_agree E F V W refl r root i j).0
        (sym (orbit_at i d n) ∙ e ∙ orbit_at j d m) in
        let s : i ≡ j = sym (mod-eq_of_lt n) ∙ same ∙ mod-eq_of_lt m in
        absurd (omega arith)

    -- r comes back after as many powers p as the degree
    pub root_returns :
        power (field_values F).ops r (F.characteristic ^ degree f) ≡ r
    root_returns =
        (root_powers_agree E F V W refl r root (degree f) 0).1
        (mod_self (degree f) ∙ sym (zero-mod (degree f)))
        ∙ ap (power (field_values F).ops r) (pow-zero F.characteristic)
        ∙ (values_ring F W).one_mul r root.0

    -- so f splits
    splits_at : Splits F (constants F f)
    splits_at = record {
      polynomial = constants_polynomial F W f irreducible.polynomial;
      not_zero = λ e. absurd (omega (
        arith,
        irreducible.not_constant,
        length_constants F W f,
        ap length e,
      ));
      roots = orbit;
      count = omega (arith, length_orbit, length_constants F W f);
      different = conjugates_differ;
      are_roots = All-from_get_or (IsRoot F (constants F f)) orbit []
          (λ k l. let m : k < degree f = omega (arith, length_orbit) in
          subst (IsRoot F (constants F f)) (sym (orbit_at k [] m)) (power_root k));
    }

  -- **f splits where its degree divides that of F**
  pub irreducible_splits : degree f ∣ degree_of F → Splits F (constants F f)
  irreducible_splits d = let (r, root) = root_exists E F V W refl d in
      splits_at r root

  -- **and has no root elsewhere**
  pub irreducible_no_root : ¬ (degree f ∣ degree_of F) → (v : List ℕ)
      → ¬ IsRoot F (constants F f) v
  irreducible_no_root n v r = n (root_degree_divides E F V W refl v r)

  -- **a divisor over F of f splits**
  pub irreducible_divisor_splits : degree f ∣ degree_of F → (g : List (List ℕ))
      → IsPolynomial (field_values F) g → Divides (field_values F) g (constants F f)
      → Splits F g
  irreducible_divisor_splits d g vg k =
      split_divisor F W (constants F f) g (irreducible_splits d) vg k

  -- **so it has as many roots as its degree**
  pub irreducible_root_count : degree f ∣ degree_of F → (vs : List (List ℕ))
      → IsRootList F (constants F f) vs → length vs ≡ degree f
  irreducible_root_count d vs R = omega (
    arith,
    root_list_length F W (constants F f) vs (irreducible_splits d) R,
    length_constants F W f,
  )

  -- **or none**
  pub irreducible_root_list : ¬ (degree f ∣ degree_of F) → IsRootList F (constants F f) []
  irreducible_root_list n = record {
    rising = λ i j d l k. absurd (omega arith);
    exactly = λ v. ((λ (k, l, _). absurd (omega arith)), (λ r. absurd (irreducible_no_root n v r)));
  }
