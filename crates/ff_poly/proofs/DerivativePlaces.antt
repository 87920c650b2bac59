-- Derivatives modulo p, place by place.
use Rattle.std.proofs.Common.{◌≡◌, ℕ, zero, suc, ◌+◌, ◌-◌, ◌*◌, ◌%◌, ◌≤◌, List, [], ◌∷◌, length, slice_index, refl, ap, sym, ◌∙◌, arith}
use Rattle.std.proofs.lemmas.List.{get_or_past}
use native.Mathlib.Nat.{zero-mod, zero-mul, mul-zero, add-mod-mod}
use Rattle.alg_model.specs.Coefficients.{mod_ops, times}
use Rattle.alg_model.specs.Polynomials.{trim, multiples_from, derivative}

pub times_mod : (p n a : ℕ) → times (mod_ops p) n a ≡ (n * a) % p
times_mod p zero a = sym (ap (λ w. w % p) (zero-mul a) ∙ zero-mod p)
times_mod p (suc n) a =
    let e : a + n * a ≡ suc n * a = omega arith in
    ap (λ w. (a + w) % p) (times_mod p n a) ∙ add-mod-mod a (n * a) p ∙ ap (λ w. w % p) e

pub multiples_at : (p n : ℕ) (f : List ℕ) (k : ℕ) → slice_index (multiples_from (mod_ops p) n f) k ≡ ((n + k) * slice_index f k) % p
multiples_at p n [] k = sym (ap (λ w. w % p) (mul-zero (n + k)) ∙ zero-mod p)
multiples_at p n (x ∷ xs) zero = let e : n ≡ n + 0 = omega arith in times_mod p n x ∙ ap (λ w. (w * x) % p) e
multiples_at p n (x ∷ xs) (suc k) =
    let e : suc n + k ≡ n + suc k = omega arith in
    multiples_at p (suc n) xs k ∙ ap (λ w. (w * slice_index xs k) % p) e

-- the coefficients of the derivative, with zeros at the end kept
abbrev pub derivative_list : ℕ → List ℕ → List ℕ
derivative_list p [] = []
derivative_list p (x ∷ xs) = multiples_from (mod_ops p) 1 xs

pub derivative_is : (p : ℕ) (f : List ℕ) → derivative (mod_ops p) f ≡ trim (mod_ops p) (derivative_list p f)
derivative_is p [] = refl
derivative_is p (x ∷ xs) = refl

pub derivative_at : (p : ℕ) (f : List ℕ) (k : ℕ) → slice_index (derivative_list p f) k ≡ ((k + 1) * slice_index f (k + 1)) % p
derivative_at p [] k = sym (ap (λ w. w % p) (mul-zero (k + 1)) ∙ zero-mod p)
derivative_at p (x ∷ xs) k =
    let e : 1 + k ≡ k + 1 = omega arith in
    let s : suc k ≡ k + 1 = omega arith in
    multiples_at p 1 xs k ∙ ap (λ w. (w * slice_index xs k) % p) e ∙ ap (λ i. ((k + 1) * slice_index (x ∷ xs) i) % p) s

pub derivative_past : (p : ℕ) (f : List ℕ) (k : ℕ) → length f - 1 ≤ k → slice_index (derivative_list p f) k ≡ 0
derivative_past p f k h =
    derivative_at p f k ∙ ap (λ w. ((k + 1) * w) % p) (get_or_past f (k + 1) 0 (omega arith)) ∙ ap (λ w. w % p) (mul-zero (k + 1)) ∙ zero-mod p
