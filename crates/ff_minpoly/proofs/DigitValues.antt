-- Values made of the digits of a list, d after d.
use Rattle.std.proofs.Common.{◌≡◌, ◌≢◌, ℕ, ◌+◌, ◌-◌, ◌*◌, ◌/◌, ◌<◌, ◌≤◌, List, [], ◌∷◌, ◌++◌, length, slice_index, slice_index_or, All, refl, ap, sym, ◌∙◌, subst, ⊎_elim, arith}
use Rattle.std.proofs.lemmas.Bool.{cases_eq}
use Rattle.std.proofs.lemmas.List.{length-append, get_or_append_left, get_or_push}
use Rattle.std.proofs.lemmas.List.Elements.{All-append, All-nil, All-cons}
use Rattle.std.proofs.lemmas.List.FromFn.{get_or-map-range_with_len}
use native.Mathlib.Nat.{div-mul-le_self}
use Rattle.std.proofs.Math.Nat.{mul-le-mul_right}
use Rattle.alg_model.specs.Coefficients.{power}
use Rattle.alg_model.specs.Polynomials.{trim, leading}
use Rattle.alg_model.specs.Maps.{Field, IsFiniteField, field_values, degree_of, generator, apply, IsEmbedding}
use Rattle.alg_rings.proofs.Trims.{leading_at}
use Rattle.alg_rings.proofs.CarrierPolynomials.{trimmed_from_leading}
use Rattle.alg_fields.proofs.OverResidues.{field_at_values}
use Rattle.alg_galois.proofs.Embeddings.{embedding_is_powers_of_image}
use Rattle.ff_minpoly.specs.PrivateRelations.{IsMonicOf}
use Rattle.ff_minpoly.proofs.ValuePlaces.{propositional, ring}

-- the first j values have the first j d digits
pub record AreChunks (K : Field) (digits : List ℕ) (values : List (List ℕ)) (j : ℕ) : Type 0 where
  pub count : length values ≡ j
  pub valid : All (field_values K).Valid values
  pub digits_are : (q i : ℕ) → q < j → i < degree_of K
      → slice_index digits (q * degree_of K + i)
      ≡ slice_index (slice_index_or values q (field_values K).ops.zero) i

pub no_chunks : (K : Field) (digits : List ℕ) → AreChunks K digits [] 0
no_chunks K digits = record {
  count = refl;
  valid = λ k e l. absurd (omega arith);
  digits_are = λ q i l. absurd (omega arith);
}

-- one value more
pub one_chunk : (K : Field) (digits : List ℕ) (values : List (List ℕ)) (value : List ℕ) (d j : ℕ)
    → d ≡ degree_of K → length value ≡ d → All (λ x. x < K.characteristic) value
    → ((i : ℕ) → i < d → slice_index value i ≡ slice_index digits (j * d + i))
    → AreChunks K digits values j → AreChunks K digits (values ++ value ∷ []) (j + 1)
one_chunk K digits values value d j e long residues same C = record {
  count = length-append values (value ∷ []) ∙ ap (λ n. n + 1) C.count;
  valid = All-append (field_values K).Valid values (value ∷ []) C.valid
      (All-cons (field_values K).Valid value [] (residues, long ∙ e) (All-nil (field_values K).Valid));
  digits_are = λ q i l li. ⊎_elim
      (λ s. ap (λ t. slice_index digits (t * degree_of K + i)) s
      ∙ ap (λ t. slice_index digits (j * t + i)) (sym e) ∙ sym (same i (omega (arith, e)))
      ∙ ap (λ v. slice_index v i) (sym (get_or_push values value (field_values K).ops.zero q (C.count ∙ sym s))))
      (λ s. C.digits_are q i (omega arith) li
      ∙ ap (λ v. slice_index v i) (sym (get_or_append_left values (value ∷ []) (field_values K).ops.zero q
      (omega (arith, C.count)))))
      (cases_eq q j);
}

-- room for the digits of one value more
pub chunk_within : (n d j : ℕ) → j < n / d → j * d + d ≤ n
chunk_within n d j l =
    let grown : (j + 1) * d ≤ n / d * d = mul-le-mul_right d (omega arith) in
    let whole : n / d * d ≤ n = div-mul-le_self n d in
    let more : (j + 1) * d ≡ j * d + d = one_more j d in omega (arith, grown, whole, more)
  where
    one_more : (j d : ℕ) → (j + 1) * d ≡ j * d + d
    one_more j d = grind arith

module _ (K : Field) (W : IsFiniteField K) where
  one_not_zero : (field_values K).ops.one ≢ (field_values K).ops.zero
  one_not_zero =
      (field_at_values K.characteristic W.characteristic K.polynomial W.monic W.irreducible).one_not_zero

  -- **the values and one are the coefficients of a monic polynomial**
  pub monic_of_chunks : (digits : List ℕ) (values g : List (List ℕ)) (r : ℕ)
      → length digits ≡ r * degree_of K → AreChunks K digits values r
      → g ≡ trim (field_values K).ops (values ++ (field_values K).ops.one ∷ [])
      → IsMonicOf K digits g
  monic_of_chunks digits values g r count C is =
      let o = (field_values K).ops in
      let list = values ++ o.one ∷ [] in
      let R = ring K W in
      let long : length list ≡ r + 1 = length-append values (o.one ∷ []) ∙ ap (λ n. n + 1) C.count in
      let last : length list - 1 ≡ r = omega (arith, long) in
      let top : slice_index_or list r o.zero ≡ o.one = get_or_push values o.one o.zero r C.count in
      let valid : All (field_values K).Valid list =
      All-append (field_values K).Valid values (o.one ∷ []) C.valid
      (All-cons (field_values K).Valid o.one [] R.one_valid (All-nil (field_values K).Valid)) in
      let lead : leading o list ≡ o.one =
      leading_at o list ∙ ap (λ n. slice_index_or list n o.zero) last ∙ top in
      let same : list ≡ g =
      sym (is ∙ trimmed_from_leading (propositional K W) R list valid
      (λ z. one_not_zero (sym lead ∙ z))) in
      subst (IsMonicOf K digits) same (record {
        degree = r;
        count = count;
        long = long;
        valid = valid;
        top = top;
        digits_are = λ j i l li. C.digits_are j i l li
            ∙ ap (λ v. slice_index v i) (sym (get_or_append_left values (o.one ∷ []) o.zero j
            (omega (arith, C.count))));
      })

-- the first image of an embedding is one
pub first_image : (E F : Field) → IsFiniteField E → IsFiniteField F → (m : List (List ℕ))
    → IsEmbedding E F m → slice_index_or m 0 [] ≡ (field_values F).ops.one
first_image E F V W m D =
    let positive : 0 < degree_of E =
    let l : 1 < length E.polynomial = V.irreducible.not_constant in omega arith in
    ap (λ l. slice_index_or l 0 []) (embedding_is_powers_of_image E F V W m D)
    ∙ get_or-map-range_with_len (power (field_values F).ops (apply F m (generator E))) 0 (degree_of E)
    0 0 [] positive (omega arith)
