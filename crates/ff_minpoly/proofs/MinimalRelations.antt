-- From the first relation of the powers of a value to its minimal polynomial, over any carrier c of
-- coefficients: `image` takes a coefficient into the field F, where it is the combination of the
-- block's values by its digits.
use Rattle.std.proofs.Common.{◌≡◌, ◌≢◌, ℕ, zero, suc, ◌+◌, ◌-◌, ◌*◌, ◌/◌, ◌%◌, ◌<◌, List, [], ◌∷◌, length, map, slice_index, slice_index_or, All, refl, ap, ap₂, sym, ◌∙◌, ⊎_elim, arith}
use Rattle.std.proofs.lemmas.Bool.{cases_lt}
use Rattle.std.proofs.lemmas.List.{length-map, get_or-map, ext_get_or}
use Rattle.std.proofs.lemmas.List.Elements.{All-get_or, All-map}
use Rattle.std.proofs.lemmas.Nat.{div-mul-add, mod-mul-add}
use Rattle.std.proofs.Math.Nat.{add-mul-mod_self_right, add_comm}
use native.Mathlib.Nat.{zero-add, zero-mod, zero-mul}
use Rattle.alg_model.specs.Coefficients.{Ops, Carrier, power}
use Rattle.alg_model.specs.Polynomials.{evaluate}
use Rattle.alg_model.specs.Factors.{IsMonic}
use Rattle.alg_model.specs.Fields.{IsRing}
use Rattle.alg_model.specs.Maps.{Field, IsFiniteField, field_values, degree_of}
use Rattle.alg_model.specs.Roots.{IsMinimalPolynomial}
use Rattle.alg_rings.specs.Laws.{IsPropositional}
use Rattle.alg_rings.proofs.Trims.{leading_at}
use Rattle.alg_rings.proofs.CarrierPolynomials.{trimmed_from_leading}
use Rattle.alg_rings.proofs.Validity.{power_valid, value_at_valid}
use Rattle.alg_fields.proofs.ListRemainders.{zeros_at}
use Rattle.ff_residues.specs.SumRows.{sum_below}
use Rattle.ff_residues.proofs.SumsBelow.{add_agree, sum_same, sum_agree, sum_split}
use Rattle.ff_minpoly.specs.PrivateSpans.{combined}
use Rattle.ff_minpoly.specs.PrivateRelations.{product_place, IsDependent, IsRelation}
use Rattle.ff_minpoly.proofs.Spans.{combined_multiple}
use Rattle.ff_minpoly.proofs.Products.{product_at}
use Rattle.ff_minpoly.proofs.ValuePlaces.{ring, value_place}

-- a sum by blocks of d
pub sum_blocks : (r d : ℕ) (f : ℕ → ℕ)
    → sum_below (r * d) f ≡ sum_below r (λ j. sum_below d (λ i. f (j * d + i)))
sum_blocks zero d f = ap (λ m. sum_below m f) (zero-mul d)
sum_blocks (suc r) d f =
    let more : suc r * d ≡ r * d + d = one_more r d in
    ap (λ m. sum_below m f) more ∙ sum_split (r * d) d f
    ∙ ap (λ w. w + sum_below d (λ i. f (r * d + i))) (sum_blocks r d f)
  where
    one_more : (r d : ℕ) → suc r * d ≡ r * d + d
    one_more r d = grind arith

module _ (F : Field) (W : IsFiniteField F) {X : Type 0} (c : Carrier X) (Pc : IsPropositional c)
    (Rc : IsRing c) (one_not_zero : c.ops.one ≢ c.ops.zero) (image : X → List ℕ)
    (digit : X → ℕ → ℕ) (block : List (List ℕ))
    (image_valid : (x : X) → c.Valid x → (field_values F).Valid (image x))
    (image_one : image c.ops.one ≡ (field_values F).ops.one)
    (spread : (x : X) → c.Valid x → (w : List ℕ) → (field_values F).Valid w → (k : ℕ)
    → k < degree_of F → slice_index ((field_values F).ops.mul (image x) w) k % F.characteristic
    ≡ sum_below (length block) (λ i. digit x i
    * slice_index ((field_values F).ops.mul (slice_index_or block i []) w) k) % F.characteristic)
    (a : List ℕ) (va : (field_values F).Valid a) where
  abbrev o : Ops (List ℕ)
  o = (field_values F).ops

  abbrev p : ℕ
  p = F.characteristic

  abbrev d : ℕ
  d = length block

  abbrev col : ℕ → ℕ → ℕ
  col = product_place F block a

  abbrev at : List X → ℕ → X
  at h j = slice_index_or h j c.ops.zero

  abbrev pow : ℕ → List ℕ
  pow j = power (field_values F).ops a j

  pow_valid : (j : ℕ) → (field_values F).Valid (power (field_values F).ops a j)
  pow_valid j = power_valid (ring F W) a j va

  -- place k of coefficient x times a^j
  abbrev part : X → ℕ → ℕ → ℕ
  part x j k = sum_below (length block) (λ i. digit x i * product_place F block a (j * length block + i) k)

  part_is : (x : X) → c.Valid x → (j k : ℕ) → k < degree_of F
      → slice_index ((field_values F).ops.mul (image x) (power (field_values F).ops a j)) k % F.characteristic
      ≡ part x j k % F.characteristic
  part_is x vx j k l = spread x vx (pow j) (pow_valid j) k l
      ∙ ap (λ y. y % p) (sum_same d
      (λ i. digit x i * slice_index (o.mul (slice_index_or block i []) (pow j)) k)
      (λ i. digit x i * col (j * d + i) k)
      (λ i li. ap (λ y. digit x i * y) (sym (product_at F block a i j k li))))

  images_valid : (h : List X) → All c.Valid h → All (field_values F).Valid (map image h)
  images_valid h vh = All-map (field_values F).Valid image h
      (λ k e l. image_valid (slice_index_or h k e) (vh k e l))

  -- **place k of the value at a of a polynomial over c**
  value_by_parts : (h : List X) → All c.Valid h → (k : ℕ) → k < degree_of F
      → slice_index (evaluate (field_values F).ops (map image h) a) k
      ≡ sum_below (length h) (λ j. part (slice_index_or h j c.ops.zero) j k) % F.characteristic
  value_by_parts h vh k l =
      let ws = map image h in
      value_place F W a va ws (images_valid h vh) k l
      ∙ ap (λ m. sum_below m (λ j. slice_index (o.mul (slice_index_or ws j []) (pow j)) k) % p)
      (length-map h image)
      ∙ sum_agree p (length h) (λ j. slice_index (o.mul (slice_index_or ws j []) (pow j)) k)
      (λ j. part (at h j) j k)
      (λ j lj. ap (λ v. slice_index (o.mul v (pow j)) k % p) (get_or-map image h j c.ops.zero [] lj)
      ∙ part_is (at h j) (All-get_or c.Valid h j c.ops.zero lj vh) j k l)

  -- the leading coefficient one has the power for its part
  last_part : (j k : ℕ) → k < degree_of F → part c.ops.one j k % F.characteristic
      ≡ slice_index (power (field_values F).ops a j) k % F.characteristic
  last_part j k l = sym (part_is c.ops.one Rc.one_valid j k l)
      ∙ ap (λ v. slice_index v k % p) (ap (λ v. o.mul v (pow j)) image_one
      ∙ (ring F W).one_mul (pow j) (pow_valid j))

  -- the parts below t are a combination of the products
  parts_combined : (t k : ℕ) (y : ℕ → ℕ) (h : List X)
      → ((j i : ℕ) → j < t → i < length block → y (j * length block + i) ≡ digit (slice_index_or h j c.ops.zero) i)
      → combined (t * length block) y (product_place F block a) k
      ≡ sum_below t (λ j. part (slice_index_or h j c.ops.zero) j k)
  parts_combined t k y h same = sum_blocks t d (λ q. y q * col q k)
      ∙ sum_same t (λ j. sum_below d (λ i. y (j * d + i) * col (j * d + i) k)) (λ j. part (at h j) j k)
      (λ j lj. sum_same d (λ i. y (j * d + i) * col (j * d + i) k) (λ i. digit (at h j) i * col (j * d + i) k)
      (λ i li. ap (λ z. z * col (j * d + i) k) (same j i lj li)))

  cancels : (v s q : ℕ) → v + s + q * s ≡ v + s * suc q
  cancels v s q = grind arith

  -- **where a monic polynomial of t + 1 coefficients vanishes, a^t depends on the lower powers**
  pub monic_dependent : (h : List X) → All c.Valid h → IsMonic c h
      → evaluate (field_values F).ops (map image h) a ≡ (field_values F).ops.zero
      → (t : ℕ) → length h ≡ suc t → IsDependent F block a t
  monic_dependent h vh monic zero_is t long = (
    λ q. (p - 1) * digit (at h (q / d)) (q % d),
    λ k l.
        let s = sum_below t (λ j. part (at h j) j k) in
        let v = slice_index (pow t) k in
        let above : 1 < p = W.characteristic.above_one in
        let whole : suc (p - 1) ≡ p = omega arith in
        let last : length h - 1 ≡ t = omega arith in
        let top : at h t ≡ c.ops.one = ap (at h) (sym last) ∙ sym (leading_at c.ops h) ∙ monic in
        let none : (s + v) % p ≡ 0 =
        add_agree p s v s (part (at h t) t k) refl
        (sym (ap (λ x. part x t k % p) top ∙ last_part t k l))
        ∙ ap (λ m. sum_below m (λ j. part (at h j) j k) % p) (sym long)
        ∙ sym (value_by_parts h vh k l) ∙ ap (λ w. slice_index w k) zero_is
        ∙ zeros_at 0 (degree_of F) k in
        sym (add-mul-mod_self_right v s p)
        ∙ ap (λ w. (v + s * w) % p) (sym whole) ∙ ap (λ w. w % p) (sym (cancels v s (p - 1)))
        ∙ add_agree p (v + s) ((p - 1) * s) 0 ((p - 1) * s)
        (ap (λ w. w % p) (add_comm v s) ∙ none ∙ sym (zero-mod p)) refl
        ∙ ap (λ w. w % p) (zero-add ((p - 1) * s)
        ∙ ap (λ w. (p - 1) * w) (sym (parts_combined t k (λ q. digit (at h (q / d)) (q % d)) h
        (λ j i lj li. ap₂ (λ x r. digit (at h x) r) (div-mul-add j d i li) (mod-mul-add j d i li))))
        ∙ sym (combined_multiple (t * d) (p - 1) (λ q. digit (at h (q / d)) (q % d)) col k)),
  )

  not_empty : (h : List X) → IsMonic c h → (t : ℕ) × (length h ≡ suc t)
  not_empty [] monic = absurd (one_not_zero (sym monic))
  not_empty (x ∷ h) monic = (length h, refl)

  -- **the polynomial of the relation is the minimal polynomial**
  pub relation_is_minimal : (digits : List ℕ) (R : IsRelation F block a digits) (g : List X)
      → All c.Valid g → length g ≡ suc R.degree → slice_index_or g R.degree c.ops.zero ≡ c.ops.one
      → ((j i : ℕ) → j < R.degree → i < length block
      → slice_index digits (j * length block + i) ≡ digit (slice_index_or g j c.ops.zero) i)
      → IsMinimalPolynomial c (field_values F) image a g
  relation_is_minimal digits R g vg long top same =
      let r = R.degree in
      let last : length g - 1 ≡ r = omega arith in
      let monic : IsMonic c g = leading_at c.ops g ∙ ap (at g) last ∙ top in
      record {
        polynomial = (vg, trimmed_from_leading Pc Rc g vg (λ z. one_not_zero (sym monic ∙ z)));
        monic = monic;
        vanishes =
            let ve = value_at_valid (ring F W) (map image g) a (images_valid g vg) va in
            ext_get_or 0 (evaluate o (map image g) a) o.zero (ve.1 ∙ sym (ring F W).zero_valid.1)
            (λ k lk. let l : k < degree_of F = omega (arith, ve.1) in
            let s = sum_below r (λ j. part (at g j) j k) in
            let v = slice_index (pow r) k in
            value_by_parts g vg k l
            ∙ ap (λ m. sum_below m (λ j. part (at g j) j k) % p) long
            ∙ add_agree p s (part (at g r) r k) s v refl
            (ap (λ x. part x r k % p) top ∙ last_part r k l)
            ∙ ap (λ w. w % p) (add_comm s v
            ∙ ap (λ w. v + w) (sym (parts_combined r k (slice_index digits) g same)))
            ∙ R.vanishes k l ∙ sym (zeros_at 0 (degree_of F) k));
        least = λ h vh mh zh. ⊎_elim
            (λ l. let t = not_empty h mh in
            absurd (R.least t.0 (omega (arith, t.1, long)) (monic_dependent h vh.0 mh zh t.0 t.1)))
            (λ l. l) (cases_lt (length h) (length g));
      }
