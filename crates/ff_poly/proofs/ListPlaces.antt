-- Lists of numbers and of residues by their places, 0 past the end.
use Rattle.std.proofs.Common.{◌≡◌, ◌≢◌, ℕ, zero, suc, ◌+◌, ◌-◌, ◌*◌, ◌%◌, ◌<◌, ◌≤◌, List, [], ◌∷◌, length, slice_index, take, replicate, ap, sym, ◌∙◌, subst, arith, ⊎_elim, length-take, get_or-take}
use Rattle.std.proofs.lemmas.Bool.{cases_lt}
use Rattle.std.proofs.lemmas.List.{get_or_past, get_or-replicate, length-replicate}
use native.Mathlib.Nat.{zero-mod, add-mul-mod_self_left}
use Rattle.alg_model.specs.Coefficients.{mod_ops}
use Rattle.alg_model.specs.Polynomials.{sum, trim, leading}
use Rattle.alg_rings.proofs.Residues.{zero_test}
use Rattle.alg_rings.proofs.Trims.{leading_at, trim_is, trimmed_from_leading}

-- a place stands before i, or at i + j
pub place_cases : (P : ℕ → Type 0) (i k : ℕ) → (k < i → P k) → ((j : ℕ) → P (i + j)) → P k
place_cases P i k below above =
    ⊎_elim below (λ h. let e : i + (k - i) ≡ k = omega arith in subst P e (above (k - i))) (cases_lt k i)

pub blank_at : (n k : ℕ) → slice_index (replicate n 0) k ≡ 0
blank_at n k = ⊎_elim (λ h. get_or-replicate n k 0 0 h) (λ h. get_or_past (replicate n 0) k 0 (omega (arith, length-replicate {A = ℕ} n 0))) (cases_lt k n)

pub take_past : (i j : ℕ) (f : List ℕ) → i ≤ j → slice_index (take i f) j ≡ 0
take_past i j f h = get_or_past (take i f) j 0 (omega (arith, length-take i f))

-- places modulo p that are zero from n on may be cut there
pub cut_at : (p n : ℕ) (f places : List ℕ) → ((k : ℕ) → slice_index places k % p ≡ slice_index f k)
    → ((k : ℕ) → n ≤ k → slice_index f k ≡ 0) → (k : ℕ) → slice_index (take n places) k % p ≡ slice_index f k
cut_at p n f places h past k =
    ⊎_elim
    (λ l. ap (λ w. w % p) (get_or-take n places k 0 l) ∙ h k)
    (λ l. ap (λ w. w % p) (take_past n k places l) ∙ zero-mod p ∙ sym (past k l))
    (cases_lt k n)

-- past the ends of both there is nothing to add
pub residue_sum_past : (p : ℕ) (f g : List ℕ) (k : ℕ) → length f ≤ k → length g ≤ k → slice_index (sum (mod_ops p) f g) k ≡ 0
residue_sum_past p [] g k h l = get_or_past g k 0 l
residue_sum_past p (x ∷ xs) [] k h l = get_or_past (x ∷ xs) k 0 h
residue_sum_past p (x ∷ xs) (y ∷ ys) zero h l = absurd (omega arith)
residue_sum_past p (x ∷ xs) (y ∷ ys) (suc k) h l = residue_sum_past p xs ys k (omega arith) (omega arith)

-- the list up to its last number that isn't zero is the list without zeros at its end
pub trim_is_take : (p n : ℕ) (f : List ℕ) → 0 < n → n ≤ length f → slice_index f (n - 1) ≢ 0 → ((k : ℕ) → n ≤ k → slice_index f k ≡ 0)
    → take n f ≡ trim (mod_ops p) f
trim_is_take p n f above within last past =
    let len : length (take n f) ≡ n = omega (arith, length-take n f) in
    let kept : slice_index (take n f) (n - 1) ≡ slice_index f (n - 1) = get_or-take n f (n - 1) 0 (omega arith) in
    let end : leading (mod_ops p) (take n f) ≡ slice_index f (n - 1) = leading_at (mod_ops p) (take n f) ∙ ap (λ m. slice_index (take n f) (m - 1)) len ∙ kept in
    sym (trim_is (mod_ops p) (zero_test p) f (take n f)
    (trimmed_from_leading (mod_ops p) (zero_test p) (take n f) (λ z. last (sym end ∙ z)))
    (λ k. ⊎_elim (λ l. sym (get_or-take n f k 0 l)) (λ l. past k l ∙ sym (take_past n k f l)) (cases_lt k n)))

-- (n - 1) * y is the negative of y modulo n
taken_whole : (m x y : ℕ) → y ≤ m + 1 → x + m * y + (m + 1) * 1 ≡ x + (m + 1 - y) + (m + 1) * y
taken_whole m x y h = omega arith

pub taken_from : (n x y : ℕ) → 0 < n → y < n → (x + (n - 1) * y) % n ≡ (x + (n - y)) % n
taken_from n x y above below =
    let e : n - 1 + 1 ≡ n = omega arith in
    sym (add-mul-mod_self_left (x + (n - 1) * y) n 1)
    ∙ ap (λ w. w % n) (subst (λ m. x + (n - 1) * y + m * 1 ≡ x + (m - y) + m * y) e (taken_whole (n - 1) x y (omega arith)))
    ∙ add-mul-mod_self_left (x + (n - y)) n y
