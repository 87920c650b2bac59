-- Lists that grow by one number, or are written over.
use Rattle.std.proofs.Common.{◌≡◌, ⊎_elim, ℕ, ◌*◌, ◌<◌, List, [], ◌∷◌, ◌++◌, length, take, drop, slice_index, ap, sym, ◌∙◌, arith}
use Rattle.std.specs.List.{refill}
use Rattle.std.proofs.lemmas.Bool.{cases_lt}
use Rattle.std.proofs.Math.Seq.{take-append_seam}
use Rattle.std.proofs.lemmas.List.{get_or_append_left, get_or_push, length-append}

-- the numbers of c at 0, step, .., and one more
pub taken_more : (xs c ys : List ℕ) (step at : ℕ) → at ≡ length xs * step → ys ≡ xs ++ slice_index c at ∷ []
    → ((k : ℕ) → k < length xs → slice_index xs k ≡ slice_index c (k * step))
    → (k : ℕ) → k < length ys → slice_index ys k ≡ slice_index c (k * step)
taken_more xs c ys step at e g h k l =
    ap (λ zs. slice_index zs k) g
    ∙ ⊎_elim (λ below. get_or_append_left xs (slice_index c at ∷ []) 0 k below ∙ h k below)
    (λ above. let last : length xs ≡ k = omega (arith, ap length g, length-append xs (slice_index c at ∷ [])) in
    get_or_push xs (slice_index c at) 0 k last ∙ ap (slice_index c) (e ∙ ap (λ n. n * step) last))
    (cases_lt k (length xs))

-- a list written over as a whole
pub refill_whole : (xs ws : List ℕ) → length ws ≡ length xs → refill (length xs) xs ws ≡ ws
refill_whole xs ws e = ap (λ n. take n (ws ++ drop (length ws) xs)) (sym e) ∙ take-append_seam ws (drop (length ws) xs)
