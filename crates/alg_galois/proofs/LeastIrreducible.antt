-- A finite field of each degree exists over each characteristic, and of the monic irreducible
-- polynomials of one degree one comes first.
use Rattle.std.proofs.Common.{◌≡◌, ◌⊎◌, ⊎_elim, inl, inr, ℕ, ◌-◌, ◌<◌, List, [], ◌∷◌, ◌++◌, length, All, refl, ap, sym, ◌∙◌, subst, arith, Ordering, Less, Equal, Greater, nat_cmp}
use Rattle.std.specs.Ordering.{ordering_reverse}
use Rattle.std.proofs.lemmas.Cmp.{nat_cmp_total, on_total}
use Rattle.std.proofs.lemmas.List.{length-append}
use Rattle.std.proofs.lemmas.List.Elements.{All-nil, All-cons, All-head, All-tail, All-append}
use Rattle.alg_model.specs.Coefficients.{Ops, residues, mod_ops, IsPrime}
use Rattle.alg_model.specs.Polynomials.{leading}
use Rattle.alg_model.specs.Factors.{IsPolynomial, IsMonic, IsIrreducible, order_by}
use Rattle.alg_model.specs.Values.{degree}
use Rattle.alg_model.specs.Maps.{Field, IsFiniteField, field_values, degree_of}
use Rattle.alg_model.specs.Roots.{IsLeastIrreducible}
use Rattle.alg_rings.proofs.CarrierPolynomials.{trimmed_from_leading}
use Rattle.alg_rings.proofs.Divisors.{Polynomial}
use Rattle.alg_rings.proofs.Elements.{Element}
use Rattle.alg_rings.proofs.ResidueFields.{prime_residues_field, residues_propositional}
use Rattle.alg_divisors.proofs.Existence.{proper_factor_or_none}
use Rattle.alg_rings.proofs.PolynomialOrder.{order_by_total, order_by_same, nat_cmp_same}
use Rattle.alg_finite.proofs.LeastMembers.{least_member}
use Rattle.alg_finite.proofs.FiniteValues.{residues_finite}
use Rattle.alg_finite.proofs.IrreducibleExistence.{irreducible_exists, finite_carrier}
use Rattle.alg_galois.proofs.Fields.{IsModulus, field_of, finite}

-- **a finite field of each degree exists**
pub field_exists : (p d : ℕ) → IsPrime p → 0 < d
    → (K : Field) × IsFiniteField K × (K.characteristic ≡ p) × (degree_of K ≡ d)
field_exists p d h l =
    let f : (f : Polynomial (residues p)) × IsMonic (residues p) f.0
    × IsIrreducible (residues p) f.0 × (degree f.0 ≡ d) =
    irreducible_exists (residues_propositional p) (prime_residues_field p h) (residues_finite p h) d l in
    (field_of p f.0.0, record { characteristic = h; monic = f.1; irreducible = f.2 }, refl, f.3)

-- ---- monic polynomials as the lists below their last coefficient
leading_last : {A : Type 0} (o : Ops A) (xs : List A) (y : A) → leading o (xs ++ y ∷ []) ≡ y
leading_last o [] y = refl
leading_last o (x ∷ []) y = refl
leading_last o (x ∷ z ∷ xs) y = leading_last o (z ∷ xs) y

without_last : {A : Type 0} (o : Ops A) (g : List A) → 0 < length g
    → (xs : List A) × (g ≡ xs ++ leading o g ∷ [])
without_last o [] l = absurd (omega arith)
without_last o (x ∷ []) l = ([], refl)
without_last o (x ∷ y ∷ g) l = let r : (xs : List _) × (y ∷ g ≡ xs ++ leading o (y ∷ g) ∷ []) =
    without_last o (y ∷ g) (omega arith) in
    (x ∷ r.0, ap (λ t. x ∷ t) r.1)

-- ---- the least
module _ (p : ℕ) (h : IsPrime p) (f : List ℕ) (M : IsModulus p f) where
  abbrev Lower : Type 0
  Lower = Element (field_values (field_of p f))

  -- the monic polynomial with these lower coefficients
  abbrev with_one : Lower → List ℕ
  with_one a = a.0 ++ 1 ∷ []

  with_one_valid : (a : Lower) → All (λ x. x < p) (with_one a)
  with_one_valid a = All-append (λ x. x < p) a.0 (1 ∷ []) a.1.0
      (All-cons (λ x. x < p) 1 [] (prime_residues_field p h).ring.one_valid (All-nil (λ x. x < p)))

  with_one_polynomial : (a : Lower) → IsPolynomial (residues p) (with_one a)
  with_one_polynomial a = (
    with_one_valid a,
    trimmed_from_leading (residues_propositional p) (prime_residues_field p h).ring (with_one a)
        (with_one_valid a)
        (λ z. (prime_residues_field p h).one_not_zero (sym (leading_last (mod_ops p) a.0 1) ∙ z)),
  )

  length_with_one : (a : Lower) → length (with_one a) ≡ length f
  length_with_one a = let l : 1 < length f = M.irreducible.not_constant in
      omega (arith, length-append a.0 (1 ∷ []), a.1.1)

  irreducible_or_not : (a : Lower)
      → IsIrreducible (residues p) (with_one a) ⊎ (IsIrreducible (residues p) (with_one a) → ⊥)
  irreducible_or_not a = ⊎_elim
      (λ g. inr (λ i. i.no_factor g.0 g.1))
      (λ none. inl (record {
        polynomial = with_one_polynomial a;
        not_constant = let l : 1 < length f = M.irreducible.not_constant in
            omega (arith, length_with_one a);
        no_factor = none;
      }))
      (proper_factor_or_none (residues_propositional p) (prime_residues_field p h)
      (finite_carrier (residues_propositional p) (prime_residues_field p h) (residues_finite p h))
      (with_one a) (with_one_polynomial a))

  -- each monic polynomial of this degree has lower coefficients
  lower_of : (g : List ℕ) → IsMonic (residues p) g → IsPolynomial (residues p) g
      → length g ≡ length f → (a : Lower) × (with_one a ≡ g)
  lower_of g m k e =
      let l : 1 < length f = M.irreducible.not_constant in
      let r : (xs : List ℕ) × (g ≡ xs ++ leading (mod_ops p) g ∷ []) =
      without_last (mod_ops p) g (omega arith) in
      let s : g ≡ r.0 ++ 1 ∷ [] = r.1 ∙ ap (λ y. r.0 ++ y ∷ []) m in (
        (
          r.0,
          (
            first_valid r.0 (1 ∷ []) (subst (All (λ x. x < p)) s k.0),
            omega (arith, ap length s, length-append r.0 (1 ∷ [])),
          ),
        ),
        sym s,
      )
    where
      first_valid : (xs ys : List ℕ) → All (λ x. x < p) (xs ++ ys) → All (λ x. x < p) xs
      first_valid [] ys v = All-nil (λ x. x < p)
      first_valid (x ∷ xs) ys v =
          All-cons (λ x. x < p) x xs (All-head (λ x. x < p) x (xs ++ ys) v)
          (first_valid xs ys (All-tail (λ x. x < p) x (xs ++ ys) v))

  least_of_length : (f' : List ℕ) × IsLeastIrreducible p (degree f) f'
  least_of_length =
      let l : 1 < length f = M.irreducible.not_constant in
      let own : (a : Lower) × (with_one a ≡ f) = lower_of f M.monic M.irreducible.polynomial refl in
      let a : (a : Lower) × IsIrreducible (residues p) (with_one a)
      × ((b : Lower) → IsIrreducible (residues p) (with_one b)
      → order_by nat_cmp (with_one b) (with_one a) ≡ Less → ⊥) =
      least_member (finite p h f M).members (on_total with_one (order_by_total nat_cmp_total))
      (λ a. IsIrreducible (residues p) (with_one a)) irreducible_or_not
      own.0 (subst (IsIrreducible (residues p)) (sym own.1) M.irreducible) in (
        with_one a.0,
        record {
          monic = leading_last (mod_ops p) a.0.0 1;
          irreducible = a.1;
          of_degree = ap (λ n. n - 1) (length_with_one a.0);
          least = λ g m i e b.
              let lg : 1 < length g = i.not_constant in
              let d : (d : Lower) × (with_one d ≡ g) =
              lower_of g m i.polynomial (omega (arith, e)) in
              a.2 d.0 (subst (IsIrreducible (residues p)) (sym d.1) i)
              (subst (λ t. order_by nat_cmp t (with_one a.0) ≡ Less) (sym d.1) b);
        },
      )

-- **of each degree there is a least irreducible polynomial**
pub least_irreducible_exists : (p n : ℕ) → IsPrime p → 0 < n
    → (f : List ℕ) × IsLeastIrreducible p n f
least_irreducible_exists p n h l =
    let f : (f : Polynomial (residues p)) × IsMonic (residues p) f.0
    × IsIrreducible (residues p) f.0 × (degree f.0 ≡ n) =
    irreducible_exists (residues_propositional p) (prime_residues_field p h) (residues_finite p h) n l in
    subst (λ d. (f : List ℕ) × IsLeastIrreducible p d f) f.3
    (least_of_length p h f.0.0 (record { monic = f.1; irreducible = f.2 }))

-- **and it is the only one**
pub least_irreducible_unique : (p n : ℕ) (f g : List ℕ) → IsLeastIrreducible p n f
    → IsLeastIrreducible p n g → f ≡ g
least_irreducible_unique p n f g k l = compared (order_by nat_cmp f g) refl
  where
    compared : (r : Ordering) → order_by nat_cmp f g ≡ r → f ≡ g
    compared Less e = absurd (l.least f k.monic k.irreducible k.of_degree e)
    compared Equal e = order_by_same nat_cmp_same f g e
    compared Greater e = absurd
        (k.least g l.monic l.irreducible l.of_degree
        ((order_by_total nat_cmp_total).antisymm g f ∙ ap ordering_reverse e))
