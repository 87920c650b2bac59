-- The states of the generator and the numbers that are drawn.
use Rattle.std.proofs.Common.{◌≡◌, ℕ, zero, suc, ◌+◌, ◌*◌, ◌%◌, ◌^◌, ◌<◌, refl, sym, ap, ◌∙◌, arith, List, [], ◌∷◌, ◌++◌, length, get_or}
use Rattle.std.specs.Fn.{iterate}
use Rattle.std.proofs.Math.Nat.{mod-add-mod, mod-lt}
use Rattle.std.proofs.Math.Numerals.{suc-eq-add-one}
use Rattle.std.proofs.lemmas.List.FromFn.{map-range_with_len_more, get_or-map-range_with_len, length-map-range_with_len}
use Rattle.lat_gen.specs.Generated.{next_state, state_after, nth_draw}
use Rattle.lat_gen.specs.PrivateDraws.{draws_below}

-- a product and a sum modulo 2^64
pub next_is : (s : ℕ)
    → ((s * 6364136223846793005) % 2 ^ 64 + 1442695040888963407) % 2 ^ 64 ≡ next_state s
unfolding next_state
next_is s = mod-add-mod (s * 6364136223846793005) (2 ^ 64) 1442695040888963407

iterate_suc : {A : Type 0} (h : A → A) (n : ℕ) (x : A) → iterate h (suc n) x ≡ h (iterate h n x)
iterate_suc h zero x = refl
iterate_suc h (suc n) x = iterate_suc h n (h x)

-- one draw more
pub state_more : (s n : ℕ) → state_after s (n + 1) ≡ next_state (state_after s n)
unfolding state_after
state_more s n = ap (λ k. iterate next_state k s) (sym (suc-eq-add-one n)) ∙ iterate_suc next_state n s

pub draws_more : (s m k : ℕ)
    → draws_below s m (k + 1) ≡ draws_below s m k ++ (nth_draw s k % m) ∷ []
unfolding draws_below
draws_more s m k = map-range_with_len_more (λ k. nth_draw s k % m) 0 k k (omega arith)

pub none_drawn : (s m : ℕ) → draws_below s m 0 ≡ []
unfolding draws_below
none_drawn s m = refl

-- the number at a place
pub draw_at : (s m n k d : ℕ) → k < n → get_or (draws_below s m n) k d ≡ nth_draw s k % m
unfolding draws_below
draw_at s m n k d l = get_or-map-range_with_len (λ k. nth_draw s k % m) 0 n k k d l (omega arith)

pub draws_count : (s m n : ℕ) → length (draws_below s m n) ≡ n
unfolding draws_below
draws_count s m n = length-map-range_with_len (λ k. nth_draw s k % m) 0 n

-- all numbers are below the modulus
pub all_below : (s m n : ℕ) → 0 < m → (ns : List ℕ) → ns ≡ draws_below s m n → (k d : ℕ)
    → k < length ns → get_or ns k d < m
all_below s m n some ns e k d l =
    rw e (rw (draw_at s m n k d (omega (arith, ap length e, draws_count s m n))) (mod-lt (nth_draw s k) some))

pub no_draw : (s : ℕ) → state_after s 0 ≡ s
unfolding state_after
no_draw s = refl
