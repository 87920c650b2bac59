-- Polynomials with as many roots in a finite field as their degree.
use Rattle.std.proofs.Common.{◌≡◌, ◌≢◌, ◌↔◌, ◌⊎◌, inl, inr, ⊎_elim, ℕ, ◌<◌, List, [], ◌∷◌, length, slice_index_or, AllPairs, All, Bool, true, false, refl, ap, sym, ◌∙◌, subst, arith}
use Rattle.std.specs.List.{Contains, filter}
use Rattle.std.specs.Prelude.{not}
use Rattle.std.proofs.lemmas.Bool.{cases_eq}
use Rattle.std.proofs.lemmas.List.{get_or_default}
use Rattle.std.proofs.lemmas.List.Elements.{All-head, All-cons, All-nil, All-filter, filter_passes, All-contains}
use Rattle.std.proofs.lemmas.List.Kept.{AllPairs-cons, AllPairs-filter}
use Rattle.alg_model.specs.Coefficients.{Ops}
use Rattle.alg_model.specs.Polynomials.{evaluate, poly_product, trim}
use Rattle.alg_model.specs.Factors.{IsPolynomial, IsMonic, Divides}
use Rattle.alg_model.specs.Values.{degree}
use Rattle.alg_model.specs.Maps.{Field, IsFiniteField, field_values}
use Rattle.alg_model.specs.Roots.{IsRoot}
use Rattle.alg_rings.specs.Laws.{FieldLaws}
use Rattle.alg_rings.proofs.Rings
use Rattle.alg_rings.proofs.Lists
use Rattle.alg_rings.proofs.Decisions.{Least, search_below, lists_equal_or_not}
use Rattle.alg_rings.proofs.Division.{zero_from_product}
use Rattle.alg_rings.proofs.Divisors.{length_poly_product}
use Rattle.alg_rings.proofs.Elements.{Element, element_ops, element_field, underlying_injective}
use Rattle.alg_rings.proofs.Evaluation
use Rattle.alg_rings.proofs.CarrierPolynomials.{trimmed_from_leading}
use Rattle.alg_rings.proofs.Validity.{value_at_valid}
use Rattle.alg_fields.proofs.OnCarriers.{root_bound}
use Rattle.alg_splitting.specs.PrivateSearch.{Splits}
use Rattle.alg_splitting.proofs.ValueLaws.{values_set, values_ring, values_field}
use Rattle.alg_splitting.proofs.PolynomialValues.{value_of_product}
use Rattle.alg_splitting.proofs.DifferentLists.{length_of_both, within_length}

-- a member of a list, or of none of its places
pub contains_or_not : (vs : List (List ℕ)) (v : List ℕ)
    → Contains vs v ⊎ ((k : ℕ) → k < length vs → slice_index_or vs k v ≢ v)
contains_or_not vs v = ⊎_elim
    (λ (l : Least (λ k. slice_index_or vs k v ≡ v) (length vs)). inl (l.number, l.below, l.holds))
    (λ none. inr none)
    (search_below (λ k. slice_index_or vs k v ≡ v) (length vs)
    (λ k l. lists_equal_or_not cases_eq (slice_index_or vs k v) v))

module _ (F : Field) (W : IsFiniteField F) where
  abbrev O : Ops (Element (field_values F))
  O = element_ops (values_ring F W)

  abbrev L : FieldLaws (element_ops (values_ring F W))
  L = element_field (values_set F) (values_field F W)

  -- **a polynomial that isn't zero has at most as many roots as its degree**
  pub roots_bounded : (h : List (List ℕ)) → IsPolynomial (field_values F) h → h ≢ []
      → (vs : List (List ℕ)) → AllPairs (λ a b. a ≢ b) vs → All (IsRoot F h) vs
      → length vs < length h
  roots_bounded h vh n vs d r = root_bound (values_set F) (values_field F W) h vs vh n
      (λ k e l. (r k e l).0) d (λ k e l. (r k e l).1)

  -- **a polynomial that splits has no other roots**
  pub split_all : (h : List (List ℕ)) (S : Splits F h) (v : List ℕ) → IsRoot F h v
      → Contains S.roots v
  split_all h S v r = ⊎_elim (λ c. c)
      (λ none. absurd (omega (
        arith,
        S.count,
        roots_bounded h S.polynomial S.not_zero (v ∷ S.roots)
            (AllPairs-cons (λ a b. a ≢ b) v S.roots
            (λ k d l e. none k l (get_or_default S.roots k v d l ∙ sym e)) S.different)
            (All-cons (IsRoot F h) v S.roots r S.are_roots),
      )))
      (contains_or_not S.roots v)

  -- **each list of its roots, all of them and different, is as long as its degree**
  pub split_count : (h : List (List ℕ)) → Splits F h → (vs : List (List ℕ))
      → AllPairs (λ a b. a ≢ b) vs → ((v : List ℕ) → Contains vs v ↔ IsRoot F h v)
      → length vs ≡ degree h
  split_count h S vs d e = omega (
    arith,
    S.count,
    within_length vs S.roots d (λ v c. split_all h S v ((e v).0 c)),
    within_length S.roots vs S.different
        (λ v c. (e v).1 (All-contains (IsRoot F h) S.roots v S.are_roots c)),
  )

  -- where it isn't constant, it has a root
  pub split_root : (h : List (List ℕ)) → Splits F h → 1 < length h → (v : List ℕ) × IsRoot F h v
  split_root h S l = (slice_index_or S.roots 0 [], S.are_roots 0 [] (omega (arith, S.count)))

  -- a root of a product is a root of one factor
  root_of_product : (q g : List (List ℕ)) → All (field_values F).Valid q
      → All (field_values F).Valid g → (v : List ℕ)
      → IsRoot F (poly_product (field_values F).ops q g) v
      → evaluate (field_values F).ops g v ≢ (field_values F).ops.zero → IsRoot F q v
  root_of_product q g vq vg v r n = (
    r.0,
    ap (λ w. w.0) (zero_from_product L
        (evaluate (field_values F).ops g v, value_at_valid (values_ring F W) g v vg r.0)
        (evaluate (field_values F).ops q v, value_at_valid (values_ring F W) q v vq r.0)
        (underlying_injective (values_set F) _ _
        ((values_ring F W).mul_comm _ _ (value_at_valid (values_ring F W) g v vg r.0)
        (value_at_valid (values_ring F W) q v vq r.0)
        ∙ sym (value_of_product (values_set F) (values_ring F W) v r.0 q g vq vg) ∙ r.1))
        (λ e. n (ap (λ w. w.0) e))),
  )

  -- **a divisor of what splits splits**
  pub split_divisor : (h g : List (List ℕ)) → Splits F h → IsPolynomial (field_values F) g
      → Divides (field_values F) g h → Splits F g
  split_divisor h g S vg (q, vq, s) = record {
    polynomial = vg;
    not_zero = not_zero;
    roots = filter at_zero S.roots;
    count = omega (
      arith,
      S.count,
      length_of_both at_zero S.roots,
      roots_bounded g vg not_zero (filter at_zero S.roots) (differ at_zero) of_g,
      roots_bounded q vq quotient_not_zero (filter (λ v. not (at_zero v)) S.roots)
          (differ (λ v. not (at_zero v))) of_q,
      length_poly_product (values_set F) (values_field F W) q g vq vg quotient_not_zero not_zero,
      ap length s,
      Lists.length_not_nil g not_zero,
      Lists.length_not_nil q quotient_not_zero,
    );
    different = differ at_zero;
    are_roots = of_g;
  }
    where
      not_zero : g ≢ []
      not_zero e = S.not_zero (sym s ∙ ap (poly_product (field_values F).ops q) e
          ∙ ap (trim (field_values F).ops) (Lists.product_nil (field_values F).ops q))

      quotient_not_zero : q ≢ []
      quotient_not_zero e =
          S.not_zero (sym s ∙ ap (λ w. poly_product (field_values F).ops w g) e)

      at_zero : List ℕ → Bool
      at_zero v = (field_values F).ops.is_zero (evaluate (field_values F).ops g v)

      differ : (test : List ℕ → Bool) → AllPairs (λ a b. a ≢ b) (filter test S.roots)
      differ test = AllPairs-filter (λ a b. a ≢ b) test S.roots S.different

      roots_of : (test : List ℕ → Bool) → All (IsRoot F h) (filter test S.roots)
      roots_of test = All-filter test (IsRoot F h) S.roots S.are_roots

      value_valid : (v : List ℕ) → (field_values F).Valid v
          → (field_values F).Valid (evaluate (field_values F).ops g v)
      value_valid v vv = value_at_valid (values_ring F W) g v vg.0 vv

      of_g : All (IsRoot F g) (filter at_zero S.roots)
      of_g k d l = let r = roots_of at_zero k d l in (
        r.0,
        ((values_ring F W).zero_test _ (value_valid _ r.0)).0
            (filter_passes at_zero S.roots k d l),
      )

      of_q : All (IsRoot F q) (filter (λ v. not (at_zero v)) S.roots)
      of_q k d l =
          let v = slice_index_or (filter (λ v. not (at_zero v)) S.roots) k d in
          let r : IsRoot F h v = roots_of (λ v. not (at_zero v)) k d l in
          root_of_product q g vq.0 vg.0 v (subst (λ w. IsRoot F w v) (sym s) r)
          (λ e. apart (at_zero v) (filter_passes (λ v. not (at_zero v)) S.roots k d l)
          (((values_ring F W).zero_test (evaluate (field_values F).ops g v)
          (value_valid v r.0)).1 e))
        where
          apart : (b : Bool) → not b ≡ true → b ≡ true → ⊥
          apart true e t = cc
          apart false e t = cc

  -- ---- degree 1
  -- y + a has the root -a alone
  pub linear_root : (a v : List ℕ) → (field_values F).Valid a
      → IsRoot F (a ∷ (field_values F).ops.one ∷ []) v ↔ (v ≡ (field_values F).ops.neg a)
  linear_root a v va = (
    (λ r. ap (λ w. w.0) (Rings.neg_unique L.ring (a, va) (v, r.0)
        (underlying_injective (values_set F) _ _ (sym (value v r.0) ∙ r.1)))),
    (λ e. (
      subst (field_values F).Valid (sym e) ((values_ring F W).neg_valid a va),
      value v (subst (field_values F).Valid (sym e) ((values_ring F W).neg_valid a va))
          ∙ ap ((field_values F).ops.add a) e ∙ (values_ring F W).add_neg a va,
    )),
  )
    where
      value : (v : List ℕ) → (field_values F).Valid v
          → evaluate (field_values F).ops (a ∷ (field_values F).ops.one ∷ []) v
          ≡ (field_values F).ops.add a v
      value v vv = ap (λ w. w.0) (ap (O.add (a, va))
          (ap (O.mul (v, vv)) (Evaluation.value_of_constant L.ring O.one (v, vv))
          ∙ Rings.mul_one L.ring (v, vv)))

  -- and splits
  pub linear_splits : (a : List ℕ) → (field_values F).Valid a
      → Splits F (a ∷ (field_values F).ops.one ∷ [])
  linear_splits a va = record {
    polynomial = (
      valid,
      trimmed_from_leading (values_set F) (values_ring F W) _ valid (values_field F W).one_not_zero,
    );
    not_zero = λ e. absurd (let l : 2 ≡ 0 = ap length e in omega arith);
    roots = (field_values F).ops.neg a ∷ [];
    count = refl;
    different = λ i j d l k. absurd (omega arith);
    are_roots = All-cons (IsRoot F (a ∷ (field_values F).ops.one ∷ [])) _ []
        ((linear_root a _ va).1 refl) (All-nil (IsRoot F (a ∷ (field_values F).ops.one ∷ [])));
  }
    where
      valid : All (field_values F).Valid (a ∷ (field_values F).ops.one ∷ [])
      valid = All-cons (field_values F).Valid a ((field_values F).ops.one ∷ []) va
          (All-cons (field_values F).Valid (field_values F).ops.one [] (values_ring F W).one_valid
          (All-nil (field_values F).Valid))

  -- **a monic polynomial of degree 1 has the negative of its constant coefficient as its one root**
  pub root_of_degree_one : (h : List (List ℕ)) → IsPolynomial (field_values F) h
      → IsMonic (field_values F) h → length h ≡ 2 → (v : List ℕ)
      → IsRoot F h v
      ↔ (v ≡ (field_values F).ops.neg (slice_index_or h 0 (field_values F).ops.zero))
  root_of_degree_one [] vh m l v = absurd (omega arith)
  root_of_degree_one (a ∷ []) vh m l v = absurd (omega arith)
  root_of_degree_one (a ∷ b ∷ []) vh m l v =
      subst (λ w. IsRoot F (a ∷ w ∷ []) v ↔ (v ≡ (field_values F).ops.neg a)) (sym m)
      (linear_root a v (All-head (field_values F).Valid a (b ∷ []) vh.0))
  root_of_degree_one (a ∷ b ∷ d ∷ h) vh m l v = absurd (omega arith)
