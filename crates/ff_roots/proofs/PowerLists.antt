-- Lists of the powers y, y^p, y^(p^2), .. modulo g, one longer.
use Rattle.std.proofs.Common.{◌≡◌, ℕ, ◌+◌, ◌<◌, ◌≤◌, List, [], ◌∷◌, ◌++◌, length, slice_index_or, ap, sym, subst, arith, ⊎_elim}
use Rattle.std.proofs.lemmas.Bool.{cases_lt}
use Rattle.std.proofs.lemmas.List.{get_or_append_left, get_or_push, length-append}
use Rattle.alg_model.specs.Factors.{IsPolynomial}
use Rattle.alg_model.specs.Maps.{Field, field_values}
use Rattle.alg_splitting.specs.PrivateSearch.{IsFrobeniusModulo}
use Rattle.ff_roots.specs.PrivatePowers.{ArePowers}

-- none of them
pub no_powers : (F : Field) (g : List (List ℕ)) (ys : List (List (List ℕ))) → ys ≡ []
    → ArePowers F g 0 ys
no_powers F g ys e = record {
  count = ap length e;
  polynomials = λ k l. absurd (omega arith);
  short = λ k l. omega arith;
  powers = λ k l. absurd (omega arith);
}

-- **one more**
pub one_more_power : (F : Field) (g : List (List ℕ)) (n : ℕ) (ys : List (List (List ℕ)))
    (a : List (List ℕ)) → ArePowers F g n ys → IsPolynomial (field_values F) a
    → length a < length g → IsFrobeniusModulo F g n a → ArePowers F g (n + 1) (ys ++ a ∷ [])
one_more_power F g n ys a Y va l s = record {
  count = omega (arith, Y.count, length-append ys (a ∷ []));
  polynomials = λ k h. ⊎_elim
      (λ b. subst (IsPolynomial (field_values F)) (sym (before k b)) (Y.polynomials k b))
      (λ b. subst (IsPolynomial (field_values F)) (sym (last k h b)) va) (cases_lt k n);
  short = λ k h. ⊎_elim
      (λ b. subst (λ w. length w < length g) (sym (before k b)) (Y.short k b))
      (λ b. subst (λ w. length w < length g) (sym (last k h b)) l) (cases_lt k n);
  powers = λ k h. ⊎_elim
      (λ b. subst (IsFrobeniusModulo F g k) (sym (before k b)) (Y.powers k b))
      (λ b. let e : n ≡ k = omega arith in
      subst (IsFrobeniusModulo F g k) (sym (last k h b)) (subst (λ j. IsFrobeniusModulo F g j a) e s))
      (cases_lt k n);
}
  where
    before : (k : ℕ) → k < n → slice_index_or (ys ++ a ∷ []) k [] ≡ slice_index_or ys k []
    before k b = get_or_append_left ys (a ∷ []) [] k (omega (arith, Y.count))

    last : (k : ℕ) → k < n + 1 → n ≤ k → slice_index_or (ys ++ a ∷ []) k [] ≡ a
    last k h b = get_or_push ys a [] k (omega (arith, Y.count))
