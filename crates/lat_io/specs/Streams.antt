-- A source or a sink as its callers see it.
--     Stream                 its bytes, where it tells them, and its count of faults
--     stream bytes faults    the one with these
use Rattle.std.specs.Prelude.{ℕ, List, Option}

pub record Stream : Type 0 where
  -- the bytes that a source has left or a sink holds; None where it doesn't tell them
  pub bytes : Option (List ℕ)
  -- how many faults there were
  pub faults : ℕ

abbrev pub stream : Option (List ℕ) → ℕ → Stream
stream bytes faults = record { bytes = bytes; faults = faults }
