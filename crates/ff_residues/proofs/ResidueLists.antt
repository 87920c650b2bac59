-- Lists of residues, and products of residues.
use Rattle.std.proofs.Common.{◌≡◌, ℕ, ◌+◌, ◌-◌, ◌*◌, ◌<◌, ◌≤◌, List, length, slice_index, All, arith, ⊎_elim}
use Rattle.std.proofs.lemmas.Bool.{cases_lt}
use Rattle.std.proofs.lemmas.List.{get_or_past}
use Rattle.std.proofs.lemmas.List.Elements.{All-get_or}
use Rattle.std.proofs.lemmas.Nat.{mul-le}

-- a number of a list of residues, and what stands past its end
pub below_at : (p : ℕ) (xs : List ℕ) (k : ℕ) → 0 < p → All (λ x. x < p) xs → slice_index xs k < p
below_at p xs k positive v = ⊎_elim
    (λ l. All-get_or (λ x. x < p) xs k 0 l v)
    (λ l. let e : slice_index xs k ≡ 0 = get_or_past xs k 0 l in omega arith)
    (cases_lt k (length xs))

-- a product of two residues
pub product_below : (p x y : ℕ) → x < p → y < p → x * y ≤ (p - 1) * (p - 1)
product_below p x y lx ly = mul-le x y (p - 1) (p - 1) (omega arith) (omega arith)

-- a product of two residues and a third one
pub small_step : (p v x a : ℕ) → p < 64 → v < p → x < p → a < p → v * x + a < 4096
small_step p v x a small lv lx la = let h : v * x ≤ 63 * 63 = mul-le v x 63 63 (omega arith) (omega arith) in omega arith
