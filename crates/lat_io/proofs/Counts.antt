-- Lemmas on counts of faults.
use Rattle.std.proofs.Common.{◌≡◌, ℕ, arith, inl, inr}
use Rattle.std.proofs.lemmas.Bool.{cases_lt}
use Rattle.lat_io.specs.Faults.{last_count, one_more, Rose}

-- a fault that was counted shows
pub one_more_rose : (old new : ℕ) → new ≡ one_more old → Rose old new
one_more_rose old new e = elim (cases_lt old last_count) [
  | inl l ↦ inl (omega arith)
  | inr l ↦ inr (omega arith)
]
