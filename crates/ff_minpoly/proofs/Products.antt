-- The products of a block of values with the powers of a value.
use Rattle.std.proofs.Common.{◌≡◌, ℕ, suc, ◌+◌, ◌*◌, ◌%◌, ◌<◌, ◌≤◌, List, [], length, slice_index, slice_index_or, All, refl, ap, ap₂, sym, ◌∙◌, subst, ⊎_elim, arith}
use Rattle.std.proofs.lemmas.Bool.{cases_lt}
use Rattle.std.proofs.lemmas.List.Elements.{All-get_or}
use Rattle.std.proofs.lemmas.Nat.{div-mul-add, mod-mul-add}
use Rattle.std.proofs.Math.Nat.{mul-le-mul_right}
use native.Mathlib.Nat.{add-zero, zero-mod}
use Rattle.alg_model.specs.Coefficients.{power}
use Rattle.alg_model.specs.Fields.{IsRing}
use Rattle.alg_model.specs.Maps.{Field, field_values, degree_of}
use Rattle.alg_rings.proofs.Validity.{power_valid}
use Rattle.ff_residues.proofs.SumsBelow.{sum_same}
use Rattle.ff_minpoly.specs.PrivateSpans.{combined, InSpan, IsSpan, IsReduced}
use Rattle.ff_minpoly.specs.PrivateRelations.{product_place, IsDependent, HasRelation, IsRelation}
use Rattle.ff_minpoly.proofs.Spans.{reduced_independent}

-- the block's products with a^j
pub record AreProducts (K : Field) (block : List (List ℕ)) (a : List ℕ) (j : ℕ)
    (products : List (List ℕ)) : Type 0 where
  pub count : length products ≡ length block
  pub values : All (field_values K).Valid products
  pub each : (i : ℕ) → i < length block → slice_index_or products i []
      ≡ (field_values K).ops.mul (slice_index_or block i []) (power (field_values K).ops a j)

-- place k of product i with a^j
pub product_at : (K : Field) (block : List (List ℕ)) (a : List ℕ) (i j k : ℕ) → i < length block
    → product_place K block a (j * length block + i) k
    ≡ slice_index ((field_values K).ops.mul (slice_index_or block i [])
    (power (field_values K).ops a j)) k
product_at K block a i j k l =
    ap₂ (λ r q. slice_index ((field_values K).ops.mul (slice_index_or block r [])
    (power (field_values K).ops a q)) k)
    (mod-mul-add j (length block) i l) (div-mul-add j (length block) i l)

module _ (K : Field) (R : IsRing (field_values K)) (block : List (List ℕ)) (a : List ℕ)
    (valid : (field_values K).Valid a) (values : All (field_values K).Valid block)
    (one : slice_index_or block 0 [] ≡ (field_values K).ops.one) (some : 0 < length block) where
  abbrev mul : List ℕ → List ℕ → List ℕ
  mul = (field_values K).ops.mul

  abbrev pow : ℕ → List ℕ
  pow j = power (field_values K).ops a j

  abbrev at : ℕ → List ℕ
  at i = slice_index_or block i []

  pow_valid : (j : ℕ) → (field_values K).Valid (power (field_values K).ops a j)
  pow_valid j = power_valid R a j valid

  at_valid : (i : ℕ) → i < length block → (field_values K).Valid (slice_index_or block i [])
  at_valid i l = All-get_or (field_values K).Valid block i [] l values

  -- with a^0
  pub products_start : AreProducts K block a 0 block
  products_start = record {
    count = refl;
    values = values;
    each = λ i l. sym (R.mul_comm (at i) (pow 0) (at_valid i l) (pow_valid 0)
        ∙ R.one_mul (at i) (at_valid i l));
  }

  -- with a^(j + 1)
  pub products_next : (j : ℕ) (products new : List (List ℕ)) → AreProducts K block a j products
      → length new ≡ length products → All (field_values K).Valid new
      → ((i : ℕ) → i < length products → slice_index_or new i []
      ≡ (field_values K).ops.mul (slice_index_or products i []) a)
      → AreProducts K block a (j + 1) new
  products_next j products new S count vs h =
      let next : suc j ≡ j + 1 = omega arith in
      record {
        count = count ∙ S.count;
        values = vs;
        each = λ i l. let c : length products ≡ length block = S.count in
            h i (omega arith) ∙ ap (λ v. mul v a) (S.each i l)
            ∙ R.mul_assoc (at i) (pow j) a (at_valid i l) (pow_valid j) valid
            ∙ ap (λ e. mul (at i) (pow e)) next;
      }

  -- the first one is a^j
  pub first_product : (j : ℕ) (products : List (List ℕ)) → AreProducts K block a j products
      → slice_index_or products 0 [] ≡ power (field_values K).ops a j
  first_product j products S = S.each 0 some ∙ ap (λ v. mul v (pow j)) one
      ∙ R.one_mul (pow j) (pow_valid j)

  -- whose places are those of the first product
  pub first_place_is : (j k : ℕ) → slice_index (power (field_values K).ops a j) k
      ≡ product_place K block a (j * length block) k
  first_place_is j k =
      let d = length block in
      ap (λ v. slice_index v k) (sym (ap (λ v. mul v (pow j)) one ∙ R.one_mul (pow j) (pow_valid j)))
      ∙ sym (product_at K block a 0 j k some)
      ∙ ap (λ q. product_place K block a q k) (add-zero (j * d))

  -- and those of the others
  pub product_places : (j i k : ℕ) (products : List (List ℕ)) → AreProducts K block a j products
      → i < length block → slice_index (slice_index_or products i []) k
      ≡ product_place K block a (j * length block + i) k
  product_places j i k products S l =
      ap (λ v. slice_index v k) (S.each i l) ∙ sym (product_at K block a i j k l)

  -- the reduced power, where it came in as a column
  pub power_reduced : (w p n j : ℕ) (rows : List (List ℕ)) (pivots items column row : List ℕ)
      (products : List (List ℕ)) → AreProducts K block a j products → items ≡ pivots
      → column ≡ slice_index_or products 0 [] → length column ≡ n
      → IsSpan w p n (j * length block) (product_place K block a) rows pivots
      → ((m : ℕ) (col : ℕ → ℕ → ℕ) → IsSpan w p (length column) m col rows items
      → IsReduced w p (length column) m col items (slice_index column) (slice_index row))
      → IsReduced w p n (j * length block) (product_place K block a) pivots
      (slice_index (power (field_values K).ops a j)) (slice_index row)
  power_reduced w p n j rows pivots items column row products S same is long span h =
      let m = j * length block in
      let col = product_place K block a in
      subst (λ v. IsReduced w p n m col pivots (slice_index v) (slice_index row))
      (is ∙ first_product j products S)
      (subst (λ q. IsReduced w p n m col q (slice_index column) (slice_index row)) same
      (subst (λ q. IsReduced w p q m col items (slice_index column) (slice_index row)) long
      (h m col (subst (λ q. IsSpan w p q m col rows items) (sym long)
      (subst (λ q. IsSpan w p n m col rows q) (sym same) span)))))

-- room for the products with one power more
room_for_more : (K : Field) (block : List (List ℕ)) (a : List ℕ) (j : ℕ) → HasRelation K block a
    → ((t : ℕ) → t < j → IsDependent K block a t → ⊥) → (IsDependent K block a j → ⊥)
    → (j + 1) * length block ≤ degree_of K
room_for_more K block a j H before now =
    let more : j + 1 ≤ H.degree = ⊎_elim
    (λ l. ⊎_elim (λ m. absurd (before H.degree m H.dependent))
    (λ m. let same : H.degree ≡ j = omega arith in
    absurd (now (subst (IsDependent K block a) same H.dependent))) (cases_lt H.degree j))
    (λ l. l) (cases_lt H.degree (j + 1)) in
    let fits : H.degree * length block ≤ degree_of K = H.fits in
    let grown : (j + 1) * length block ≤ H.degree * length block =
    mul-le-mul_right (length block) more in
    omega arith

-- none of the lower powers and not this one
least_next : (K : Field) (block : List (List ℕ)) (a : List ℕ) (j : ℕ)
    → ((t : ℕ) → t < j → IsDependent K block a t → ⊥) → (IsDependent K block a j → ⊥)
    → (t : ℕ) → t < j + 1 → IsDependent K block a t → ⊥
least_next K block a j before now t l = ⊎_elim (λ m. before t m)
    (λ m. let same : j ≡ t = omega arith in subst (λ u. IsDependent K block a u → ⊥) same now)
    (cases_lt t j)

at_field : (T : ℕ → ℕ → Type 0) (p n q m : ℕ) → p ≡ q → n ≡ m → T p n → T q m
at_field T p n q m e f t = subst (λ x. T q x) f (subst (λ x. T x n) e t)

-- what a power that isn't zero when reduced gives
pub record Grows (K : Field) (block : List (List ℕ)) (a : List ℕ) (j : ℕ) : Type 0 where
  -- room for the products with this power
  pub room : (j + 1) * length block ≤ degree_of K
  -- it doesn't depend on the lower ones
  pub least : (t : ℕ) → t < j + 1 → IsDependent K block a t → ⊥

-- **a power that isn't zero when reduced**
pub power_grows : (K : Field) (block : List (List ℕ)) (a : List ℕ) (w p n j s : ℕ)
    (rows : List (List ℕ)) (pivots row : List ℕ) → p ≡ K.characteristic → n ≡ degree_of K
    → HasRelation K block a → ((t : ℕ) → t < j → IsDependent K block a t → ⊥)
    → IsSpan w p n (j * length block) (product_place K block a) rows pivots
    → IsReduced w p n (j * length block) (product_place K block a) pivots
    (slice_index (power (field_values K).ops a j)) (slice_index row)
    → s < n → slice_index row s < p → (slice_index row s ≡ 0 → ⊥) → Grows K block a j
power_grows K block a w p n j s rows pivots row e f H before S D l below other =
    let m = j * length block in
    let col = product_place K block a in
    let v = slice_index (power (field_values K).ops a j) in
    let none : IsDependent K block a j → ⊥ =
    at_field (λ q d. InSpan q d m col v → ⊥) p n K.characteristic (degree_of K) e f
    (reduced_independent w p n m col rows pivots v (slice_index row) s S D l below other) in
    record {
      room = room_for_more K block a j H before none;
      least = least_next K block a j before none;
    }

-- **the relation of a power that is zero when reduced**
pub relation_found : (K : Field) (block : List (List ℕ)) (a : List ℕ) (w p n j : ℕ)
    (pivots row digits : List ℕ) → p ≡ K.characteristic → n ≡ degree_of K
    → IsReduced w p n (j * length block) (product_place K block a) pivots
    (slice_index (power (field_values K).ops a j)) (slice_index row)
    → ((k : ℕ) → k < n → slice_index row k ≡ 0)
    → length digits ≡ j * length block → All (λ x. x < p) digits
    → ((i : ℕ) → i < j * length block → slice_index digits i ≡ slice_index row (n + i))
    → ((t : ℕ) → t < j → IsDependent K block a t → ⊥) → IsRelation K block a digits
relation_found K block a w p n j pivots row digits e f D none count residues same least = record {
  degree = j;
  count = count;
  residues = subst (λ q. All (λ x. x < q) digits) e residues;
  vanishes = at_field (λ q d. (k : ℕ) → k < d
      → (slice_index (power (field_values K).ops a j) k
      + combined (j * length block) (slice_index digits) (product_place K block a) k) % q ≡ 0)
      p n K.characteristic (degree_of K) e f
      (λ k l.
      let m = j * length block in
      ap (λ s. (slice_index (power (field_values K).ops a j) k + s) % p)
      (sum_same m (λ i. slice_index digits i * product_place K block a i k)
      (λ i. slice_index row (n + i) * product_place K block a i k)
      (λ i li. ap (λ x. x * product_place K block a i k) (same i li)))
      ∙ sym (D.noted.combination k l) ∙ ap (λ x. x % p) (none k l) ∙ zero-mod p);
  least = least;
}
