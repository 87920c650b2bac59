-- The values of sums, products and powers of polynomials, over the elements of any ring.
use Rattle.std.proofs.Common.{◌≡◌, ℕ, zero, suc, ◌*◌, ◌<◌, List, [], ◌∷◌, map, All, length, slice_index_or, refl, ap, ap₂, sym, ◌∙◌, arith}
use Rattle.std.proofs.Math.Nat.{mul_comm}
use Rattle.std.proofs.lemmas.List.{length-map}
use Rattle.std.proofs.lemmas.List.Elements.{All-nil}
use Rattle.alg_model.specs.Coefficients.{Ops, Carrier, power, times, IsPrime}
use Rattle.alg_model.specs.Polynomials.{sum, scale, product, trim, poly_sum, poly_negative, poly_difference, poly_product, poly_power, evaluate}
use Rattle.alg_model.specs.Factors.{IsDivision, Divides}
use Rattle.alg_model.specs.Fields.{IsRing}
use Rattle.alg_rings.specs.Laws.{IsPropositional, RingLaws}
use Rattle.alg_rings.proofs.Rings
use Rattle.alg_rings.proofs.Powers
use Rattle.alg_rings.proofs.Folds.{Keeps, fold, fold_same, fold-map, sums_kept}
use Rattle.alg_rings.proofs.Elements.{Element, element_ops, underlying, on_valid, on_valid₂, on_elements}
use Rattle.alg_rings.proofs.Homomorphisms.{evaluate-map, trim-map, sum-map, scale-map, negatives-map, product-map, poly_power-map, power-map, place-map}
use Rattle.alg_rings.proofs.Validity.{sum_valid, negatives_valid, product_valid, trim_valid, value_at_valid}
use Rattle.alg_rings.proofs.Evaluation
use Rattle.alg_fields.proofs.Frobenius
use Rattle.alg_linear.specs.PrivateGrids.{total}
use Rattle.alg_linear.proofs.Sums.{total_scale, total_same, total_last}
use Rattle.alg_splitting.specs.PrivateSearch.{poly_total}

-- ---- where each member is an element
module _ {A : Type 0} {o : Ops A} (L : RingLaws o) (a : A) where
  -- the value of a power is the power of the value
  pub value_of_power_of : (f : List A) (n : ℕ)
      → evaluate o (poly_power o f n) a ≡ power o (evaluate o f a) n
  value_of_power_of f zero = Evaluation.value_of_trim L (o.one ∷ []) a
      ∙ Evaluation.value_of_constant L o.one a
  value_of_power_of f (suc n) =
      Evaluation.value_of_trim L (product o (poly_power o f n) f) a
      ∙ Evaluation.value_of_product L (poly_power o f n) f a
      ∙ ap (λ w. o.mul w (evaluate o f a)) (value_of_power_of f n)

  -- the value is the sum of the coefficients times the powers
  pub value_by_places_of : (f : List A)
      → evaluate o f a ≡ total o (length f) (λ j. o.mul (slice_index_or f j o.zero) (power o a j))
  value_by_places_of [] = refl
  value_by_places_of (x ∷ f) = ap₂ o.add (sym (Rings.mul_one L x))
      (ap (o.mul a) (value_by_places_of f)
      ∙ sym (total_scale L (length f) a (λ j. o.mul (slice_index_or f j o.zero) (power o a j)))
      ∙ total_same o (length f) _ _ (λ j l. turn a (slice_index_or f j o.zero) (power o a j)))
    where
      turn : (x y z : A) → o.mul x (o.mul y z) ≡ o.mul y (o.mul z x)
      turn x y z = L.mul_comm x (o.mul y z) ∙ L.mul_assoc y z x

-- **in characteristic p: the power p of a value is the sum of the coefficients' powers p times the
-- powers of a^p**
pub power_of_value : {A : Type 0} {o : Ops A} (L : RingLaws o) (p : ℕ) → IsPrime p
    → times o p o.one ≡ o.zero → (f : List A) (a : A)
    → power o (evaluate o f a) p ≡ total o (length f)
    (λ j. o.mul (power o (slice_index_or f j o.zero) p) (power o a (p * j)))
power_of_value {A} {o} L p prime characteristic f a =
    ap (λ w. power o w p) (value_by_places_of L a f)
    ∙ fold-map powers_kept (length f) _
    ∙ total_same o (length f) _ _ (λ j l.
    Powers.power_product L (slice_index_or f j o.zero) (power o a j) p
    ∙ ap (o.mul (power o (slice_index_or f j o.zero) p))
    (Powers.power_power L a j p ∙ ap (power o a) (mul_comm j p)))
  where
    powers_kept : Keeps (λ b. power o b p) o.zero o.add o.zero o.add
    powers_kept = record {
      unit = Frobenius.power_of_zero L p prime characteristic;
      both = Frobenius.power_of_sum L p prime characteristic;
    }

-- a sum of many is valid
pub total_valid : {A : Type 0} {c : Carrier A} (R : IsRing c) (n : ℕ) (f : ℕ → List A)
    → ((k : ℕ) → k < n → All c.Valid (f k)) → All c.Valid (poly_total c.ops n f)
total_valid {c = c} R zero f vf = All-nil c.Valid
total_valid {c = c} R (suc n) f vf = trim_valid R (sum c.ops (poly_total c.ops n f) (f n))
    (sum_valid R (poly_total c.ops n f) (f n) (total_valid R n f (λ k l. vf k (omega arith)))
    (vf n (omega arith)))

module _ {A : Type 0} {c : Carrier A} (P : IsPropositional c) (R : IsRing c) (v : A)
    (vv : c.Valid v) where
  open on_elements P R use {ops as E, laws as L, value as H}

  abbrev a : Element c
  a = (v, vv)

  -- zeros at the end don't count
  pub value_of_trim : (f : List A) → All c.Valid f
      → evaluate c.ops (trim c.ops f) v ≡ evaluate c.ops f v
  value_of_trim = on_valid c (λ f. evaluate c.ops (trim c.ops f) v ≡ evaluate c.ops f v)
      (λ G. ap (λ w. evaluate c.ops w v) (sym (trim-map H G)) ∙ sym (evaluate-map H (trim E G) a)
      ∙ ap (underlying c) (Evaluation.value_of_trim L G a) ∙ evaluate-map H G a)

  -- a constant is its own value
  pub value_of_constant : (b : A) → c.Valid b → evaluate c.ops (b ∷ []) v ≡ b
  value_of_constant b vb = ap (underlying c) (Evaluation.value_of_constant L (b, vb) a)

  -- the polynomial y has the value v
  pub value_of_variable : evaluate c.ops (c.ops.zero ∷ c.ops.one ∷ []) v ≡ v
  value_of_variable = ap (underlying c)
      (L.zero_add (E.mul a (evaluate E (E.one ∷ []) a))
      ∙ ap (E.mul a) (Evaluation.value_of_constant L E.one a) ∙ Rings.mul_one L a)

  -- sums with zeros at the end kept
  value_of_raw_sum : (f g : List A) → All c.Valid f → All c.Valid g
      → evaluate c.ops (sum c.ops f g) v ≡ c.ops.add (evaluate c.ops f v) (evaluate c.ops g v)
  value_of_raw_sum = on_valid₂ c
      (λ f g. evaluate c.ops (sum c.ops f g) v
      ≡ c.ops.add (evaluate c.ops f v) (evaluate c.ops g v))
      (λ F G. ap (λ w. evaluate c.ops w v) (sym (sum-map H F G))
      ∙ sym (evaluate-map H (sum E F G) a)
      ∙ ap (underlying c) (Evaluation.value_of_sum L F G a)
      ∙ ap₂ c.ops.add (evaluate-map H F a) (evaluate-map H G a))

  value_of_negative : (f : List A) → All c.Valid f
      → evaluate c.ops (poly_negative c.ops f) v ≡ c.ops.neg (evaluate c.ops f v)
  value_of_negative = on_valid c
      (λ f. evaluate c.ops (poly_negative c.ops f) v ≡ c.ops.neg (evaluate c.ops f v))
      (λ F. ap (λ w. evaluate c.ops w v) (sym (negatives-map H F))
      ∙ sym (evaluate-map H (poly_negative E F) a)
      ∙ ap (underlying c) (Evaluation.value_of_negatives L F a)
      ∙ ap c.ops.neg (evaluate-map H F a))

  -- the value of a sum is the sum of values
  pub value_of_sum : (f g : List A) → All c.Valid f → All c.Valid g
      → evaluate c.ops (poly_sum c.ops f g) v
      ≡ c.ops.add (evaluate c.ops f v) (evaluate c.ops g v)
  value_of_sum f g vf vg =
      value_of_trim (sum c.ops f g) (sum_valid R f g vf vg) ∙ value_of_raw_sum f g vf vg

  -- and so for differences
  pub value_of_difference : (f g : List A) → All c.Valid f → All c.Valid g
      → evaluate c.ops (poly_difference c.ops f g) v
      ≡ c.ops.add (evaluate c.ops f v) (c.ops.neg (evaluate c.ops g v))
  value_of_difference f g vf vg =
      value_of_sum f (poly_negative c.ops g) vf (negatives_valid R g vg)
      ∙ ap (c.ops.add (evaluate c.ops f v)) (value_of_negative g vg)

  -- multiples
  pub value_of_scale : (b : A) → c.Valid b → (f : List A) → All c.Valid f
      → evaluate c.ops (scale c.ops b f) v ≡ c.ops.mul b (evaluate c.ops f v)
  value_of_scale b vb = on_valid c
      (λ f. evaluate c.ops (scale c.ops b f) v ≡ c.ops.mul b (evaluate c.ops f v))
      (λ F. ap (λ w. evaluate c.ops w v) (sym (scale-map H (b, vb) F))
      ∙ sym (evaluate-map H (scale E (b, vb) F) a)
      ∙ ap (underlying c) (Evaluation.value_of_scale L (b, vb) F a)
      ∙ ap (c.ops.mul b) (evaluate-map H F a))

  -- products
  pub value_of_product : (f g : List A) → All c.Valid f → All c.Valid g
      → evaluate c.ops (poly_product c.ops f g) v
      ≡ c.ops.mul (evaluate c.ops f v) (evaluate c.ops g v)
  value_of_product f g vf vg =
      value_of_trim (product c.ops f g) (product_valid R f g vf vg)
      ∙ on_valid₂ c
      (λ f g. evaluate c.ops (product c.ops f g) v
      ≡ c.ops.mul (evaluate c.ops f v) (evaluate c.ops g v))
      (λ F G. ap (λ w. evaluate c.ops w v) (sym (product-map H F G))
      ∙ sym (evaluate-map H (product E F G) a)
      ∙ ap (underlying c) (Evaluation.value_of_product L F G a)
      ∙ ap₂ c.ops.mul (evaluate-map H F a) (evaluate-map H G a)) f g vf vg

  -- and powers
  pub value_of_power : (f : List A) → All c.Valid f → (n : ℕ)
      → evaluate c.ops (poly_power c.ops f n) v ≡ power c.ops (evaluate c.ops f v) n
  value_of_power f vf n = on_valid c
      (λ f. evaluate c.ops (poly_power c.ops f n) v ≡ power c.ops (evaluate c.ops f v) n)
      (λ F. ap (λ w. evaluate c.ops w v) (sym (poly_power-map H F n))
      ∙ sym (evaluate-map H (poly_power E F n) a)
      ∙ ap (underlying c) (value_of_power_of L a F n)
      ∙ power-map H (evaluate E F a) n
      ∙ ap (λ w. power c.ops w n) (evaluate-map H F a)) f vf

  -- **the value is the sum of the coefficients times the powers of v**
  pub value_by_places : (f : List A) → All c.Valid f
      → evaluate c.ops f v ≡ fold c.ops.zero c.ops.add (length f)
      (λ j. c.ops.mul (slice_index_or f j c.ops.zero) (power c.ops v j))
  value_by_places = on_valid c
      (λ f. evaluate c.ops f v ≡ fold c.ops.zero c.ops.add (length f)
      (λ j. c.ops.mul (slice_index_or f j c.ops.zero) (power c.ops v j)))
      (λ F. sym (evaluate-map H F a) ∙ ap (underlying c) (value_by_places_of L a F)
      ∙ fold-map (sums_kept H) (length F) (λ j. E.mul (slice_index_or F j E.zero) (power E a j))
      ∙ fold_same c.ops.zero c.ops.add (length F) _ _
      (λ j l. ap₂ c.ops.mul (place-map H F j) (power-map H a j))
      ∙ ap (λ n. fold c.ops.zero c.ops.add n
      (λ j. c.ops.mul (slice_index_or (map (underlying c) F) j c.ops.zero) (power c.ops v j)))
      (sym (length-map F (underlying c))))

  -- the value of a sum of many
  pub value_of_total : (n : ℕ) (f : ℕ → List A) → ((k : ℕ) → k < n → All c.Valid (f k))
      → (g : ℕ → Element c) → ((k : ℕ) → k < n → evaluate c.ops (f k) v ≡ (g k).0)
      → evaluate c.ops (poly_total c.ops n f) v ≡ (total (element_ops R) n g).0
  value_of_total zero f vf g e = refl
  value_of_total (suc n) f vf g e =
      value_of_sum (poly_total c.ops n f) (f n) (total_valid R n f (λ k l. vf k (omega arith)))
      (vf n (omega arith))
      ∙ ap₂ c.ops.add (value_of_total n f (λ k l. vf k (omega arith)) g (λ k l. e k (omega arith)))
      (e n (omega arith))
      ∙ ap (underlying c) (sym (total_last L n g))

  -- **a multiple of g is zero where g is**
  pub value_of_multiple : (g f : List A) → All c.Valid g → Divides c g f
      → evaluate c.ops g v ≡ c.ops.zero → evaluate c.ops f v ≡ c.ops.zero
  value_of_multiple g f vg (q, vq, s) e = ap (λ w. evaluate c.ops w v) (sym s)
      ∙ value_of_product q g vq.0 vg ∙ ap (c.ops.mul (evaluate c.ops q v)) e
      ∙ ap (underlying c)
      (Rings.mul_zero L (evaluate c.ops q v, value_at_valid R q v vq.0 vv))

  -- **where the divisor is zero, the remainder has the value of the dividend**
  pub value_of_remainder : (f d q r : List A) → All c.Valid d → IsDivision c f d q r
      → evaluate c.ops d v ≡ c.ops.zero → evaluate c.ops r v ≡ evaluate c.ops f v
  value_of_remainder f d q r vd D e =
      sym (R.zero_add (evaluate c.ops r v) (value_at_valid R r v D.remainder.0 vv))
      ∙ ap (λ w. c.ops.add w (evaluate c.ops r v))
      (sym (value_of_multiple d (poly_product c.ops q d) vd (q, D.quotient, refl) e))
      ∙ sym (value_of_sum (poly_product c.ops q d) r
      (trim_valid R (product c.ops q d) (product_valid R q d D.quotient.0 vd)) D.remainder.0)
      ∙ ap (λ w. evaluate c.ops w v) D.identity
