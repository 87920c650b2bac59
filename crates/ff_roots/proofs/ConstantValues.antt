-- Values in the prime field, and polynomials whose coefficients are such values.
use Rattle.std.proofs.Common.{◌≡◌, ◌≢◌, ℕ, ◌+◌, ◌-◌, ◌<◌, List, [], ◌∷◌, ◌++◌, length, take, drop, replicate, slice_index_or, refl, ap, sym, ◌∙◌, subst, arith}
use Rattle.std.proofs.lemmas.List.{length-map, map-append, take_more, take_all, get_or-map}
use Rattle.alg_model.specs.Coefficients.{residues, mod_ops}
use Rattle.alg_model.specs.Polynomials.{leading}
use Rattle.alg_model.specs.Factors.{IsMonic}
use Rattle.alg_model.specs.Maps.{Field, field_values, degree_of, constant, constants}

-- what follows the first digit
digits_after : (x : ℕ) (xs : List ℕ)
    → take (length (x ∷ xs) - 1) (drop 1 (x ∷ xs)) ≡ xs
digits_after x xs = take_all (length (x ∷ xs) - 1) xs (omega arith)

module _ (F : Field) where
  -- **a value with zeros behind its first digit is this digit**
  pub constant_from_zeros : (v : List ℕ) → length v ≡ degree_of F → 0 < degree_of F
      → (let after = take (length v - 1) (drop 1 v) in after ≡ replicate (length after) 0)
      → constant F (slice_index_or v 0 0) ≡ v
  constant_from_zeros [] e l z = absurd (omega arith)
  constant_from_zeros (x ∷ xs) e l z =
      let n : degree_of F - 1 ≡ length xs = omega arith in
      ap (λ m. x ∷ replicate m 0) n
      ∙ ap (λ w. x ∷ w) (sym (subst (λ w. w ≡ replicate (length w) 0) (digits_after x xs) z))

  -- one more
  pub constants_more : (rs : List ℕ) (r : ℕ) (g : List (List ℕ)) (i : ℕ) (v : List ℕ)
      → constants F rs ≡ take i g → i < length g → v ≡ slice_index_or g i v → constant F r ≡ v
      → constants F (rs ++ r ∷ []) ≡ take (i + 1) g
  constants_more rs r g i v e l s h =
      map-append (constant F) rs (r ∷ [])
      ∙ ap (λ w. w ++ constant F r ∷ []) e
      ∙ ap (λ w. take i g ++ w ∷ []) (h ∙ s)
      ∙ sym (take_more g i v l)

  -- **a polynomial with a coefficient outside the prime field is none over the prime field**
  pub not_constants : (f : List ℕ) (g : List (List ℕ)) (i : ℕ) (v : List ℕ) → i < length g
      → v ≡ slice_index_or g i v → ((c : ℕ) → constant F c ≢ v) → constants F f ≢ g
  not_constants f g i v l s h e =
      let k : i < length f = omega (arith, l, ap length e, length-map f (constant F)) in
      h (slice_index_or f i 0) (sym (get_or-map (constant F) f i 0 v k)
      ∙ ap (λ w. slice_index_or w i v) e ∙ sym s)

  leading_constants : (x : ℕ) (xs : List ℕ)
      → leading (field_values F).ops (constants F (x ∷ xs))
      ≡ constant F (leading (mod_ops F.characteristic) (x ∷ xs))
  leading_constants x [] = refl
  leading_constants x (y ∷ ys) = leading_constants y ys

  -- **what is monic over F is so over the prime field**
  pub monic_residues : (f : List ℕ) → 0 < length f → IsMonic (field_values F) (constants F f)
      → IsMonic (residues F.characteristic) f
  monic_residues [] l m = absurd (omega arith)
  monic_residues (x ∷ xs) l m =
      ap (λ w. slice_index_or w 0 0) (sym (leading_constants x xs) ∙ m)
