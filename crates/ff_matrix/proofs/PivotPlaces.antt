-- Loops over pivot columns: values put in their places, and the columns between them.
use Rattle.std.proofs.Common.{◌≡◌, ◌≢◌, ◌⊎◌, ℕ, ◌+◌, ◌<◌, ◌≤◌, List, [], ◌∷◌, ◌++◌, length, map, replicate, get_or, set, All, refl, ap, sym, ◌∙◌, subst, inl, inr, ⊎_elim, arith}
use Rattle.std.proofs.lemmas.Bool.{cases_eq, cases_lt}
use Rattle.std.proofs.lemmas.List.{length-set, get_or-set_same, get_or-set_other, length-replicate, get_or_append_left, get_or_push, length_push, get_or-map}
use Rattle.std.proofs.lemmas.List.Elements.{All-set, All-replicate}
use Rattle.alg_linear.specs.PrivateGrids.{AreFree}
use Rattle.alg_model.specs.Coefficients.{mod_ops, residues}
use Rattle.alg_model.specs.Matrices.{Matrix, column_at, IsMatrix}
use Rattle.ff_matrix.specs.PrivateRows.{ArePlaces, IsKernelColumn}
use Rattle.ff_matrix.proofs.RowPlaces.{zeros_at}

-- the first i values stand at their places among n, and the other places are zero
pub record IsSpread (n : ℕ) (places values numbers : List ℕ) (i : ℕ) : Type 0 where
  pub long : length numbers ≡ n
  pub at : (j : ℕ) → j < i → get_or numbers (get_or places j 0) 0 ≡ get_or values j 0
  pub zero_elsewhere : (k : ℕ) → ((j : ℕ) → j < i → get_or places j 0 ≢ k) → get_or numbers k 0 ≡ 0
  pub residues : (p : ℕ) → 0 < p → All (λ x. x < p) values → All (λ x. x < p) numbers

pub spread_start : (n : ℕ) (places values numbers : List ℕ) → numbers ≡ replicate n 0 → IsSpread n places values numbers 0
spread_start n places values numbers e = subst (λ xs. IsSpread n places values xs 0) (sym e) record {
  long = length-replicate {A = ℕ} n 0;
  at = λ j l. absurd (omega arith);
  zero_elsewhere = λ k h. zeros_at n k;
  residues = λ p above v. All-replicate (λ x. x < p) n 0 above;
}

pub spread_more : (n : ℕ) (places values numbers : List ℕ) (i x : ℕ) → ArePlaces n places → i < length places → length places ≤ length values
    → x ≡ get_or values i 0 → IsSpread n places values numbers i → IsSpread n places values (set numbers (get_or places i 0) x) (i + 1)
spread_more n places values numbers i x P l fits e h = record {
  long = length-set numbers (get_or places i 0) x ∙ h.long;
  at = λ j lj. ⊎_elim
      (λ q. ap (λ k. get_or (set numbers (get_or places i 0) x) (get_or places k 0) 0) q
      ∙ get_or-set_same numbers (get_or places i 0) x 0 (omega (arith, P.within i l, h.long)) ∙ e ∙ ap (λ k. get_or values k 0) (sym q))
      (λ d. get_or-set_other numbers (get_or places i 0) (get_or places j 0) x 0 (omega (arith, P.rising j i (omega arith) l)) ∙ h.at j (omega arith))
      (cases_eq j i);
  zero_elsewhere = λ k o. get_or-set_other numbers (get_or places i 0) k x 0 (λ q. o i (omega arith) (sym q)) ∙ h.zero_elsewhere k (λ j lj. o j (omega arith));
  residues = λ p above v. All-set (λ y. y < p) numbers (get_or places i 0) x (subst (λ y. y < p) (sym e) (v i 0 (omega arith))) (h.residues p above v);
}

-- the numbers below k: the first pivots, up to `next`, and the free ones
pub record AreFreeBelow (pivots free : List ℕ) (next k : ℕ) : Type 0 where
  pub next_within : next ≤ length pivots
  pub passed : (i : ℕ) → i < next → get_or pivots i 0 < k
  pub ahead : (i : ℕ) → next ≤ i → i < length pivots → k ≤ get_or pivots i 0
  pub within : (t : ℕ) → t < length free → get_or free t 0 < k
  pub rising : (s t : ℕ) → s < t → t < length free → get_or free s 0 < get_or free t 0
  pub no_pivot : (i t : ℕ) → i < length pivots → t < length free → get_or pivots i 0 ≢ get_or free t 0
  pub covers : (j : ℕ) → j < k
      → ((i : ℕ) × (i < next) × (get_or pivots i 0 ≡ j)) ⊎ ((t : ℕ) × (t < length free) × (get_or free t 0 ≡ j))
  pub number : next + length free ≡ k

pub free_start : (pivots : List ℕ) → AreFreeBelow pivots [] 0 0
free_start pivots = record {
  next_within = omega arith;
  passed = λ i l. absurd (omega arith);
  ahead = λ i l h. omega arith;
  within = λ t l. absurd (omega arith);
  rising = λ s t l h. absurd (omega arith);
  no_pivot = λ i t l h. absurd (omega arith);
  covers = λ j l. absurd (omega arith);
  number = refl;
}

pub free_pivot : (n k next : ℕ) (pivots free : List ℕ) → ArePlaces n pivots → next < length pivots → get_or pivots next 0 ≡ k
    → AreFreeBelow pivots free next k → AreFreeBelow pivots free (next + 1) (k + 1)
free_pivot n k next pivots free P l e h = record {
  next_within = omega arith;
  passed = λ i li. ⊎_elim (λ q. omega (arith, ap (λ j. get_or pivots j 0) q)) (λ d. omega (arith, h.passed i (omega arith))) (cases_eq i next);
  ahead = λ i li lp. omega (arith, P.rising next i (omega arith) lp);
  within = λ t lt. omega (arith, h.within t lt);
  rising = h.rising;
  no_pivot = h.no_pivot;
  covers = λ j lj. ⊎_elim (λ q. inl (next, omega arith, e ∙ sym q))
      (λ d. ⊎_elim (λ (i, li, w). inl (i, omega arith, w)) (λ w. inr w) (h.covers j (omega arith))) (cases_eq j k);
  number = omega (arith, h.number);
}

pub free_more : (n k next : ℕ) (pivots free : List ℕ) → ArePlaces n pivots → (next < length pivots → get_or pivots next 0 ≢ k)
    → AreFreeBelow pivots free next k → AreFreeBelow pivots (free ++ k ∷ []) next (k + 1)
free_more n k next pivots free P ne h = record {
  next_within = h.next_within;
  passed = λ i li. omega (arith, h.passed i li);
  ahead = λ i li lp. ⊎_elim (λ q. let d : get_or pivots i 0 ≢ k = subst (λ j. get_or pivots j 0 ≢ k) (sym q) (ne (omega arith)) in omega (arith, h.ahead i li lp))
      (λ d. omega (arith, P.rising next i (omega arith) lp, h.ahead next (omega arith) (omega arith))) (cases_eq i next);
  within = λ t lt. ⊎_elim (λ q. omega (arith, old t q, h.within t q)) (λ q. omega (arith, new t q)) (place t lt);
  rising = λ s t l lt. ⊎_elim
      (λ q. omega (arith, old s (omega arith), old t q, h.rising s t l q))
      (λ q. omega (arith, old s (omega arith), new t q, h.within s (omega arith))) (place t lt);
  no_pivot = λ i t li lt. ⊎_elim
      (λ q w. h.no_pivot i t li q (w ∙ old t q))
      (λ q w. not_free i li (w ∙ new t q)) (place t lt);
  covers = λ j lj. ⊎_elim (λ q. inr (length free, omega (arith, length_push free k), new (length free) refl ∙ sym q))
      (λ d. ⊎_elim (λ w. inl w) (λ (t, lt, w). inr (t, omega (arith, length_push free k), old t lt ∙ w)) (h.covers j (omega arith))) (cases_eq j k);
  number = omega (arith, h.number, length_push free k);
}
  where
    place : (t : ℕ) → t < length (free ++ k ∷ []) → (t < length free) ⊎ (t ≡ length free)
    place t l = ⊎_elim (λ a. inl a) (λ a. inr (omega (arith, length_push free k))) (cases_lt t (length free))

    old : (t : ℕ) → t < length free → get_or (free ++ k ∷ []) t 0 ≡ get_or free t 0
    old t l = get_or_append_left free (k ∷ []) 0 t l

    new : (t : ℕ) → t ≡ length free → get_or (free ++ k ∷ []) t 0 ≡ k
    new t q = get_or_push free k 0 t (sym q)

    not_free : (i : ℕ) → i < length pivots → get_or pivots i 0 ≢ k
    not_free i li w = ⊎_elim (λ l. let less : get_or pivots i 0 < k = h.passed i l in omega arith)
        (λ l. ⊎_elim (λ q. ne (omega arith) (ap (λ j. get_or pivots j 0) (sym q) ∙ w))
        (λ d. let up : get_or pivots next 0 < get_or pivots i 0 = P.rising next i (omega arith) li in
        let low : k ≤ get_or pivots next 0 = h.ahead next (omega arith) (omega arith) in omega arith) (cases_eq i next)) (cases_lt i next)

pub free_end : (n next : ℕ) (pivots free : List ℕ) → ArePlaces n pivots → AreFreeBelow pivots free next n → AreFree n pivots free
free_end n next pivots free P h = record {
  within = h.within;
  rising = h.rising;
  no_pivot = h.no_pivot;
  covers = λ k lk. ⊎_elim (λ (i, li, w). inl (i, omega (arith, h.next_within), w)) (λ w. inr w) (h.covers k lk);
  number = ⊎_elim
      (λ l. let up : get_or pivots next 0 < n = P.within next l in let low : n ≤ get_or pivots next 0 = h.ahead next (omega arith) l in absurd (omega arith))
      (λ l. omega (arith, h.number, h.next_within)) (cases_lt next (length pivots));
}

-- the column for a free one: the negatives at the pivots, and one at its own place
pub kernel_column_read : (p f : ℕ) (form : Matrix ℕ) (pivots column negatives numbers : List ℕ) → 1 < p → IsMatrix (residues p) form
    → f < length form.columns → ((i : ℕ) → i < length pivots → get_or pivots i 0 ≢ f) → length pivots ≤ form.rows
    → column ≡ column_at form f → negatives ≡ map (λ x. (mod_ops p).neg x) column → All (λ x. x < p) negatives
    → length numbers ≡ length form.columns
    → ((i : ℕ) → i < length pivots → get_or numbers (get_or pivots i 0) 0 ≡ get_or negatives i 0)
    → ((k : ℕ) → ((i : ℕ) → i < length pivots → get_or pivots i 0 ≢ k) → get_or numbers k 0 ≡ 0)
    → ((q : ℕ) → 0 < q → All (λ x. x < q) negatives → All (λ x. x < q) numbers)
    → IsKernelColumn p form pivots f (set numbers f 1)
kernel_column_read p f form pivots column negatives numbers above w lf apart enough is e v long at zero_elsewhere valid = record {
  column = (length-set numbers f 1 ∙ long, All-set (λ x. x < p) numbers f 1 above (valid p (omega arith) v));
  one = get_or-set_same numbers f 1 0 (omega arith);
  at_pivot = λ i l. get_or-set_other numbers f (get_or pivots i 0) 1 0 (apart i l) ∙ at i l ∙ ap (λ xs. get_or xs i 0) (e ∙ ap (map (λ x. (mod_ops p).neg x)) is)
      ∙ get_or-map (λ x. (mod_ops p).neg x) (column_at form f) i 0 0 (omega (arith, (w f [] lf).0));
  zero_elsewhere = λ k d o. get_or-set_other numbers f k 1 0 d ∙ zero_elsewhere k o;
}
