-- The count of faults that a source or a sink keeps: a number below 2^64 that never falls.
--     one_more count                the count after one fault more
--     Rose old new                  the count went up, or is at its last value
--     CountsFault result old new    a call that failed was counted, once, and no other
use Rattle.std.specs.Prelude.{◌≡◌, ℕ, ◌+◌, ◌-◌, ◌^◌, ◌<◌, ◌⊎◌, min, Result, MatchResult}

-- the last value of a count, at which it stays: 18,446,744,073,709,551,615
abbrev pub last_count : ℕ
last_count = 2 ^ 64 - 1

-- one more, but for the last value, which stays
abbrev pub one_more : ℕ → ℕ
one_more count = min (count + 1) last_count

-- the new count is greater than the old one, or is the last value, which can't be raised
abbrev pub Rose : ℕ → ℕ → Type 0
Rose old new = (old < new) ⊎ (new ≡ last_count)

-- the count stays where the call succeeded, and is one more where it failed
abbrev pub CountsFault : {A E : Type 0} → Result A E → ℕ → ℕ → Type 0
CountsFault result old new = MatchResult result (λ _. new ≡ old) (λ _. new ≡ one_more old)
