-- The passes are dealt one after another.
use Rattle.std.proofs.Common.{◌≡◌, ℕ, zero, suc, ◌+◌, ◌-◌, ◌<◌, List, [], ◌∷◌, ◌++◌, length, ap, arith, slice_get, IfSome}
use Rattle.atomic_table.specs.Seated.{TableId}
use Rattle.lat_gate.specs.Rule.{Own, numbered}
use Rattle.lat_gate.specs.Steps.{fresh, others, first_alone}
use Rattle.lat_gate.specs.Seats.{known_of, dealt}
use Rattle.lat_gate.proofs.Holders.{numbered_next}

-- what holds of each element by its place holds after one more
pub each_after_push : {A : Type 0} (P : ℕ → A → Type 0) (xs : List A) (x : A)
    → ((i : ℕ) → i < length xs → IfSome (slice_get xs i) (P i)) → P (length xs) x
    → (i : ℕ) → i < length xs + 1 → IfSome (slice_get (xs ++ x ∷ []) i) (P i)
each_after_push P [] x old new zero h = new
each_after_push P [] x old new (suc i) h = absurd (omega arith)
each_after_push P (y ∷ xs) x old new zero h = old 0 (omega arith)
each_after_push P (y ∷ xs) x old new (suc i) h =
    each_after_push (λ k. P (suc k)) xs x (λ k less. old (suc k) (omega arith)) new i (omega arith)

module _ {E : Type 0} (setting : List ℕ) (opening : List E) (passes : ℕ) where
  -- at first all numbers are left
  pub all_left : fresh setting opening passes (numbered 1 passes)
      ≡ fresh setting opening passes (numbered (0 + 1) (passes - 0))
  all_left = let same : passes ≡ passes - 0 = omega arith in
      ap (λ (n : ℕ). fresh setting opening passes (numbered 1 n)) same

  module _ (i : ℕ) (h : i < passes) where
    -- then some number is left
    pub some_left : 0 < length (numbered {E = E} (i + 1) (passes - i))
    some_left = let long = ap length (numbered_next E i passes h) in omega arith

    -- the seat that deals has the next numbers left
    pub others_left : others (fresh setting opening passes (numbered (i + 1) (passes - i)))
        ≡ fresh setting opening passes (numbered (i + 1 + 1) (passes - (i + 1)))
    others_left = ap (λ (own : Own E). others (fresh setting opening passes own)) (numbered_next E i passes h)

    -- the pass that it deals has the next number
    pub next_dealt : (id : TableId)
        → known_of id (first_alone (fresh setting opening passes (numbered (i + 1) (passes - i))))
        ≡ dealt id setting opening passes (i + 1)
    next_dealt id = ap (λ (own : Own E). known_of id (first_alone (fresh setting opening passes own)))
        (numbered_next E i passes h)
