-- Polynomials over a carrier that is a ring: they are closed under the operations and form a ring again.
use Rattle.std.proofs.Common.{◌≢◌, ◌≤◌, slice_index_or, arith, ◌≡◌, ℕ, zero, suc, List, [], ◌∷◌, map, length, refl, ap, ap₂, sym, ◌∙◌, All}
use Rattle.std.proofs.lemmas.Bool.{eqb-true, eq-eqb}
use Rattle.std.proofs.lemmas.List.{length-map, nil_from_length}
use Rattle.std.proofs.lemmas.List.Elements.{All-nil, All-cons, All-tail}
use mathlib.Core.List.{is_set}
use Rattle.alg_model.specs.Coefficients.{Carrier}
use Rattle.alg_model.specs.Polynomials.{scale, leading, convolution, sum, product, trim, poly_sum, poly_negative, poly_difference, poly_product, multiples_from, derivative, poly_power}
use Rattle.alg_model.specs.Factors.{IsPolynomial}
use Rattle.alg_model.specs.Fields.{IsRing}
use Rattle.alg_rings.specs.Laws.{IsPropositional, polynomials}
use Rattle.alg_rings.proofs.Lists
use Rattle.alg_rings.proofs.Trims
use Rattle.alg_rings.proofs.PolynomialLaws
use Rattle.alg_rings.proofs.Homomorphisms
use Rattle.alg_rings.proofs.Validity.{sum_valid, product_valid, trim_valid, negatives_valid, multiples_from_valid}
use Rattle.alg_rings.proofs.Elements.{on_elements, Element, underlying, on_valid, on_valid₂, on_valid₃, underlying_lists_injective, underlying_injective}

module _ {A : Type 0} {c : Carrier A} (P : IsPropositional c) (R : IsRing c) where
  open on_elements P R use {ops as E, laws as L, value as H}

  pub trim_polynomial : (f : List A) → All c.Valid f → IsPolynomial c (trim c.ops f)
  trim_polynomial f vf = (
    trim_valid R f vf,
    on_valid c (λ f. trim c.ops (trim c.ops f) ≡ trim c.ops f)
        (λ F. ap (trim c.ops) (sym (Homomorphisms.trim-map H F)) ∙ sym (Homomorphisms.trim-map H (trim E F))
        ∙ ap (map (underlying c)) (Trims.trim_trim E L.zero_test F) ∙ Homomorphisms.trim-map H F) f vf,
  )

  pub nil_polynomial : IsPolynomial c []
  nil_polynomial = (All-nil c.Valid, refl)

  pub one_polynomial : IsPolynomial c (trim c.ops (c.ops.one ∷ []))
  one_polynomial = trim_polynomial (c.ops.one ∷ []) (All-cons c.Valid c.ops.one [] R.one_valid (All-nil c.Valid))

  pub poly_sum_polynomial : (f g : List A) → IsPolynomial c f → IsPolynomial c g → IsPolynomial c (poly_sum c.ops f g)
  poly_sum_polynomial f g vf vg = trim_polynomial (sum c.ops f g) (sum_valid R f g vf.0 vg.0)

  pub poly_product_polynomial : (f g : List A) → IsPolynomial c f → IsPolynomial c g → IsPolynomial c (poly_product c.ops f g)
  poly_product_polynomial f g vf vg = trim_polynomial (product c.ops f g) (product_valid R f g vf.0 vg.0)

  -- what is trimmed over the carrier is trimmed over its elements
  pub trimmed_elements : (F : List (Element c)) → trim c.ops (map (underlying c) F) ≡ map (underlying c) F → trim E F ≡ F
  trimmed_elements F e = underlying_lists_injective P (trim E F) F (Homomorphisms.trim-map H F ∙ e)

  pub poly_negative_polynomial : (f : List A) → IsPolynomial c f → IsPolynomial c (poly_negative c.ops f)
  poly_negative_polynomial f vf = (
    negatives_valid R f vf.0,
    on_valid c (λ f. trim c.ops f ≡ f → trim c.ops (poly_negative c.ops f) ≡ poly_negative c.ops f)
        (λ F e. ap (trim c.ops) (sym (Homomorphisms.negatives-map H F)) ∙ sym (Homomorphisms.trim-map H (poly_negative E F))
        ∙ ap (map (underlying c)) (PolynomialLaws.trimmed_negative L F (trimmed_elements F e)) ∙ Homomorphisms.negatives-map H F)
        f vf.0 vf.1,
  )

  pub poly_difference_polynomial : (f g : List A) → IsPolynomial c f → IsPolynomial c g → IsPolynomial c (poly_difference c.ops f g)
  poly_difference_polynomial f g vf vg = poly_sum_polynomial f (poly_negative c.ops g) vf (poly_negative_polynomial g vg)

  pub derivative_polynomial : (f : List A) → IsPolynomial c f → IsPolynomial c (derivative c.ops f)
  derivative_polynomial [] vf = nil_polynomial
  derivative_polynomial (x ∷ xs) vf =
      trim_polynomial (multiples_from c.ops 1 xs) (multiples_from_valid R 1 xs (All-tail c.Valid x xs vf.0))

  pub poly_power_polynomial : (f : List A) (n : ℕ) → IsPolynomial c f → IsPolynomial c (poly_power c.ops f n)
  poly_power_polynomial f zero vf = one_polynomial
  poly_power_polynomial f (suc n) vf = poly_product_polynomial (poly_power c.ops f n) f (poly_power_polynomial f n vf) vf

  -- ---- places of valid lists
  open c.ops use {zero as O}

  pub same_place : (F G : List (Element c)) (k : ℕ) → slice_index_or (map (underlying c) F) k O ≡ slice_index_or (map (underlying c) G) k O
      → slice_index_or F k E.zero ≡ slice_index_or G k E.zero
  same_place F G k e = underlying_injective P _ _ (Homomorphisms.place-map H F k ∙ e ∙ sym (Homomorphisms.place-map H G k))

  pub trim_at : (f : List A) (k : ℕ) → All c.Valid f → slice_index_or (trim c.ops f) k O ≡ slice_index_or f k O
  trim_at f k vf = on_valid c (λ f. slice_index_or (trim c.ops f) k O ≡ slice_index_or f k O)
      (λ F. ap (λ w. slice_index_or w k O) (sym (Homomorphisms.trim-map H F)) ∙ sym (Homomorphisms.place-map H (trim E F) k)
      ∙ ap (underlying c) (Trims.trim_at E L.zero_test F k) ∙ Homomorphisms.place-map H F k) f vf

  pub trim_same : (f g : List A) → All c.Valid f → All c.Valid g → ((k : ℕ) → slice_index_or f k O ≡ slice_index_or g k O)
      → trim c.ops f ≡ trim c.ops g
  trim_same f g vf vg = on_valid₂ c (λ f g. ((k : ℕ) → slice_index_or f k O ≡ slice_index_or g k O) → trim c.ops f ≡ trim c.ops g)
      (λ F G h. sym (Homomorphisms.trim-map H F)
      ∙ ap (map (underlying c)) (Trims.trim_same E L.zero_test F G (λ k. same_place F G k (h k))) ∙ Homomorphisms.trim-map H G) f g vf vg

  -- polynomials that agree at each place are equal
  pub same_from_places : (f g : List A) → IsPolynomial c f → IsPolynomial c g
      → ((k : ℕ) → slice_index_or f k O ≡ slice_index_or g k O) → f ≡ g
  same_from_places f g vf vg h = sym vf.1 ∙ trim_same f g vf.0 vg.0 h ∙ vg.1

  pub trimmed_from_leading : (f : List A) → All c.Valid f → leading c.ops f ≢ O → trim c.ops f ≡ f
  trimmed_from_leading f vf = on_valid c (λ f. leading c.ops f ≢ O → trim c.ops f ≡ f)
      (λ F h. sym (Homomorphisms.trim-map H F) ∙ ap (map (underlying c))
      (Trims.trimmed_from_leading E L.zero_test F (λ z. h (sym (Homomorphisms.leading-map H F) ∙ ap (underlying c) z)))) f vf

  pub leading_not_zero : (f : List A) → IsPolynomial c f → f ≢ [] → leading c.ops f ≢ O
  leading_not_zero f vf = on_valid c (λ f. trim c.ops f ≡ f → f ≢ [] → leading c.ops f ≢ O)
      (λ F e h z. Trims.leading_from_not_nil E L.zero_test F (trimmed_elements F e) (λ n. h (ap (map (underlying c)) n))
      (underlying_injective P _ _ (Homomorphisms.leading-map H F ∙ z))) f vf.0 vf.1

  -- a constant that isn't zero is a polynomial of one coefficient
  pub constant_trimmed : (y : A) → c.Valid y → y ≢ O → trim c.ops (y ∷ []) ≡ y ∷ []
  constant_trimmed y v n = trimmed_from_leading (y ∷ []) (All-cons c.Valid y [] v (All-nil c.Valid)) n

  -- zeros from n on leave at most n coefficients
  pub length_trim_below : (f : List A) (n : ℕ) → All c.Valid f → ((k : ℕ) → n ≤ k → slice_index_or f k O ≡ O)
      → length (trim c.ops f) ≤ n
  length_trim_below f n vf = on_valid c (λ f. ((k : ℕ) → n ≤ k → slice_index_or f k O ≡ O) → length (trim c.ops f) ≤ n)
      (λ F h. omega (
        arith,
        Trims.length_trim_below E L.zero_test F n (λ k l. same_place F [] k (h k l)),
        ap length (Homomorphisms.trim-map H F),
        length-map (trim E F) (underlying c),
      )) f vf

  pub trim_sum_first : (f g : List A) → All c.Valid f → All c.Valid g → trim c.ops (sum c.ops (trim c.ops f) g) ≡ trim c.ops (sum c.ops f g)
  trim_sum_first f g vf vg = on_valid₂ c (λ f g. trim c.ops (sum c.ops (trim c.ops f) g) ≡ trim c.ops (sum c.ops f g))
      (λ F G. ap (λ w. poly_sum c.ops w (map (underlying c) G)) (sym (Homomorphisms.trim-map H F))
      ∙ sym (Homomorphisms.poly_sum-map H (trim E F) G) ∙ ap (map (underlying c)) (Trims.trim_sum_first L F G)
      ∙ Homomorphisms.poly_sum-map H F G) f g vf vg

  pub trim_sum_second : (f g : List A) → All c.Valid f → All c.Valid g → trim c.ops (sum c.ops f (trim c.ops g)) ≡ trim c.ops (sum c.ops f g)
  trim_sum_second f g vf vg = on_valid₂ c (λ f g. trim c.ops (sum c.ops f (trim c.ops g)) ≡ trim c.ops (sum c.ops f g))
      (λ F G. ap (poly_sum c.ops (map (underlying c) F)) (sym (Homomorphisms.trim-map H G))
      ∙ sym (Homomorphisms.poly_sum-map H F (trim E G)) ∙ ap (map (underlying c)) (Trims.trim_sum_second L F G)
      ∙ Homomorphisms.poly_sum-map H F G) f g vf vg

  pub trim_product_first : (f g : List A) → All c.Valid f → All c.Valid g
      → trim c.ops (product c.ops (trim c.ops f) g) ≡ trim c.ops (product c.ops f g)
  trim_product_first f g vf vg = on_valid₂ c (λ f g. trim c.ops (product c.ops (trim c.ops f) g) ≡ trim c.ops (product c.ops f g))
      (λ F G. ap (λ w. poly_product c.ops w (map (underlying c) G)) (sym (Homomorphisms.trim-map H F))
      ∙ sym (Homomorphisms.poly_product-map H (trim E F) G) ∙ ap (map (underlying c)) (Trims.trim_product_first L F G)
      ∙ Homomorphisms.poly_product-map H F G) f g vf vg

  pub trim_product_second : (f g : List A) → All c.Valid f → All c.Valid g
      → trim c.ops (product c.ops f (trim c.ops g)) ≡ trim c.ops (product c.ops f g)
  trim_product_second f g vf vg = on_valid₂ c (λ f g. trim c.ops (product c.ops f (trim c.ops g)) ≡ trim c.ops (product c.ops f g))
      (λ F G. ap (poly_product c.ops (map (underlying c) F)) (sym (Homomorphisms.trim-map H G))
      ∙ sym (Homomorphisms.poly_product-map H F (trim E G)) ∙ ap (map (underlying c)) (Trims.trim_product_second L F G)
      ∙ Homomorphisms.poly_product-map H F G) f g vf vg

  pub sum_at : (f g : List A) (k : ℕ) → All c.Valid f → All c.Valid g
      → slice_index_or (sum c.ops f g) k O ≡ c.ops.add (slice_index_or f k O) (slice_index_or g k O)
  sum_at f g k vf vg = on_valid₂ c
      (λ f g. slice_index_or (sum c.ops f g) k O ≡ c.ops.add (slice_index_or f k O) (slice_index_or g k O))
      (λ F G. ap (λ w. slice_index_or w k O) (sym (Homomorphisms.sum-map H F G)) ∙ sym (Homomorphisms.place-map H (sum E F G) k)
      ∙ ap (underlying c) (Lists.sum_at L F G k) ∙ ap₂ c.ops.add (Homomorphisms.place-map H F k) (Homomorphisms.place-map H G k)) f g vf vg

  pub scale_at : (a : A) (f : List A) (k : ℕ) → c.Valid a → All c.Valid f
      → slice_index_or (scale c.ops a f) k O ≡ c.ops.mul a (slice_index_or f k O)
  scale_at a f k v vf = on_valid c (λ f. slice_index_or (scale c.ops a f) k O ≡ c.ops.mul a (slice_index_or f k O))
      (λ F. ap (λ w. slice_index_or w k O) (sym (Homomorphisms.scale-map H (a, v) F))
      ∙ sym (Homomorphisms.place-map H (scale E (a, v) F) k)
      ∙ ap (underlying c) (Lists.scale_at L (a, v) F k) ∙ ap (c.ops.mul a) (Homomorphisms.place-map H F k)) f vf

  pub negatives_at : (f : List A) (k : ℕ) → All c.Valid f
      → slice_index_or (poly_negative c.ops f) k O ≡ c.ops.neg (slice_index_or f k O)
  negatives_at f k vf = on_valid c (λ f. slice_index_or (poly_negative c.ops f) k O ≡ c.ops.neg (slice_index_or f k O))
      (λ F. ap (λ w. slice_index_or w k O) (sym (Homomorphisms.negatives-map H F))
      ∙ sym (Homomorphisms.place-map H (poly_negative E F) k)
      ∙ ap (underlying c) (Lists.negatives_at L F k) ∙ ap c.ops.neg (Homomorphisms.place-map H F k)) f vf

  pub poly_sum_at : (f g : List A) (k : ℕ) → All c.Valid f → All c.Valid g
      → slice_index_or (poly_sum c.ops f g) k O ≡ c.ops.add (slice_index_or f k O) (slice_index_or g k O)
  poly_sum_at f g k vf vg = trim_at (sum c.ops f g) k (sum_valid R f g vf vg) ∙ sum_at f g k vf vg

  pub poly_difference_at : (f g : List A) (k : ℕ) → All c.Valid f → All c.Valid g
      → slice_index_or (poly_difference c.ops f g) k O ≡ c.ops.add (slice_index_or f k O) (c.ops.neg (slice_index_or g k O))
  poly_difference_at f g k vf vg =
      poly_sum_at f (poly_negative c.ops g) k vf (negatives_valid R g vg)
      ∙ ap (c.ops.add (slice_index_or f k O)) (negatives_at g k vg)

  -- the k-th place of a product is the convolution
  pub product_at : (f g : List A) (k : ℕ) → All c.Valid f → All c.Valid g
      → slice_index_or (product c.ops f g) k O ≡ convolution c.ops f g k
  product_at f g k vf vg = on_valid₂ c (λ f g. slice_index_or (product c.ops f g) k O ≡ convolution c.ops f g k)
      (λ F G. ap (λ w. slice_index_or w k O) (sym (Homomorphisms.product-map H F G))
      ∙ sym (Homomorphisms.place-map H (product E F G) k)
      ∙ ap (underlying c) (Lists.product_at L F G k) ∙ Homomorphisms.convolution-map H F G k) f g vf vg

  pub poly_product_at : (f g : List A) (k : ℕ) → All c.Valid f → All c.Valid g
      → slice_index_or (poly_product c.ops f g) k O ≡ convolution c.ops f g k
  poly_product_at f g k vf vg = trim_at (product c.ops f g) k (product_valid R f g vf vg) ∙ product_at f g k vf vg

  -- ---- the laws, on lists of valid elements
  pub poly_sum_comm : (f g : List A) → All c.Valid f → All c.Valid g → poly_sum c.ops f g ≡ poly_sum c.ops g f
  poly_sum_comm f g vf vg = on_valid₂ c (λ f g. poly_sum c.ops f g ≡ poly_sum c.ops g f)
      (λ F G. sym (Homomorphisms.poly_sum-map H F G) ∙ ap (map (underlying c)) (PolynomialLaws.poly_sum_comm L F G)
      ∙ Homomorphisms.poly_sum-map H G F) f g vf vg

  pub poly_sum_assoc : (f g h : List A) → All c.Valid f → All c.Valid g → All c.Valid h
      → poly_sum c.ops (poly_sum c.ops f g) h ≡ poly_sum c.ops f (poly_sum c.ops g h)
  poly_sum_assoc f g h vf vg vh =
      on_valid₃ c (λ f g h. poly_sum c.ops (poly_sum c.ops f g) h ≡ poly_sum c.ops f (poly_sum c.ops g h))
      (λ F G K. ap (λ w. poly_sum c.ops w (map (underlying c) K)) (sym (Homomorphisms.poly_sum-map H F G))
      ∙ sym (Homomorphisms.poly_sum-map H (poly_sum E F G) K)
      ∙ ap (map (underlying c)) (PolynomialLaws.poly_sum_assoc L F G K)
      ∙ Homomorphisms.poly_sum-map H F (poly_sum E G K)
      ∙ ap (poly_sum c.ops (map (underlying c) F)) (Homomorphisms.poly_sum-map H G K)) f g h vf vg vh

  pub poly_sum_negative : (f : List A) → All c.Valid f → poly_sum c.ops f (poly_negative c.ops f) ≡ []
  poly_sum_negative f vf = on_valid c (λ f. poly_sum c.ops f (poly_negative c.ops f) ≡ [])
      (λ F. ap (poly_sum c.ops (map (underlying c) F)) (sym (Homomorphisms.negatives-map H F))
      ∙ sym (Homomorphisms.poly_sum-map H F (poly_negative E F))
      ∙ ap (map (underlying c)) (PolynomialLaws.poly_sum_negative L F)) f vf

  pub poly_product_comm : (f g : List A) → All c.Valid f → All c.Valid g → poly_product c.ops f g ≡ poly_product c.ops g f
  poly_product_comm f g vf vg = on_valid₂ c (λ f g. poly_product c.ops f g ≡ poly_product c.ops g f)
      (λ F G. sym (Homomorphisms.poly_product-map H F G) ∙ ap (map (underlying c)) (PolynomialLaws.poly_product_comm L F G)
      ∙ Homomorphisms.poly_product-map H G F) f g vf vg

  pub poly_product_assoc : (f g h : List A) → All c.Valid f → All c.Valid g → All c.Valid h
      → poly_product c.ops (poly_product c.ops f g) h ≡ poly_product c.ops f (poly_product c.ops g h)
  poly_product_assoc f g h vf vg vh =
      on_valid₃ c (λ f g h. poly_product c.ops (poly_product c.ops f g) h ≡ poly_product c.ops f (poly_product c.ops g h))
      (λ F G K. ap (λ w. poly_product c.ops w (map (underlying c) K)) (sym (Homomorphisms.poly_product-map H F G))
      ∙ sym (Homomorphisms.poly_product-map H (poly_product E F G) K)
      ∙ ap (map (underlying c)) (PolynomialLaws.poly_product_assoc L F G K)
      ∙ Homomorphisms.poly_product-map H F (poly_product E G K)
      ∙ ap (poly_product c.ops (map (underlying c) F)) (Homomorphisms.poly_product-map H G K)) f g h vf vg vh

  pub poly_product_sum : (f g h : List A) → All c.Valid f → All c.Valid g → All c.Valid h
      → poly_product c.ops f (poly_sum c.ops g h) ≡ poly_sum c.ops (poly_product c.ops f g) (poly_product c.ops f h)
  poly_product_sum f g h vf vg vh =
      on_valid₃ c (λ f g h. poly_product c.ops f (poly_sum c.ops g h)
      ≡ poly_sum c.ops (poly_product c.ops f g) (poly_product c.ops f h))
      (λ F G K. ap (poly_product c.ops (map (underlying c) F)) (sym (Homomorphisms.poly_sum-map H G K))
      ∙ sym (Homomorphisms.poly_product-map H F (poly_sum E G K))
      ∙ ap (map (underlying c)) (PolynomialLaws.poly_product_sum L F G K)
      ∙ Homomorphisms.poly_sum-map H (poly_product E F G) (poly_product E F K)
      ∙ ap₂ (poly_sum c.ops) (Homomorphisms.poly_product-map H F G) (Homomorphisms.poly_product-map H F K)) f g h vf vg vh

  pub one_poly_product : (f : List A) → IsPolynomial c f → poly_product c.ops (trim c.ops (c.ops.one ∷ [])) f ≡ f
  one_poly_product f vf = on_valid c (λ f. trim c.ops f ≡ f → poly_product c.ops (trim c.ops (c.ops.one ∷ [])) f ≡ f)
      (λ F e. ap (λ w. poly_product c.ops w (map (underlying c) F)) (sym (Homomorphisms.trim-map H (E.one ∷ [])))
      ∙ sym (Homomorphisms.poly_product-map H (trim E (E.one ∷ [])) F)
      ∙ ap (map (underlying c)) (PolynomialLaws.one_poly_product L F (trimmed_elements F e))) f vf.0 vf.1

  -- the polynomials over a ring are a ring
  pub polynomials_ring : IsRing (polynomials c)
  polynomials_ring = record {
    zero_valid = nil_polynomial;
    one_valid = one_polynomial;
    add_valid = poly_sum_polynomial;
    mul_valid = poly_product_polynomial;
    neg_valid = poly_negative_polynomial;
    zero_test = λ f vf. ((λ e. nil_from_length f (eqb-true (length f) 0 e)), (λ e. eq-eqb (length f) 0 (ap length e)));
    add_comm = λ f g vf vg. poly_sum_comm f g vf.0 vg.0;
    add_assoc = λ f g h vf vg vh. poly_sum_assoc f g h vf.0 vg.0 vh.0;
    zero_add = λ f vf. vf.1;
    add_neg = λ f vf. poly_sum_negative f vf.0;
    mul_comm = λ f g vf vg. poly_product_comm f g vf.0 vg.0;
    mul_assoc = λ f g h vf vg vh. poly_product_assoc f g h vf.0 vg.0 vh.0;
    one_mul = one_poly_product;
    mul_add = λ f g h vf vg vh. poly_product_sum f g h vf.0 vg.0 vh.0;
  }

pub polynomials_propositional : {A : Type 0} {c : Carrier A} → IsPropositional c → IsPropositional (polynomials c)
polynomials_propositional P = record {
  set = is_set P.set;
  valid = λ f. hlevel (P.valid, is_set P.set);
}
