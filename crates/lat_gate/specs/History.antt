-- Histories: lists of entries, each of which has a number.
--     of_number number n log     the entries of the number n, in order
--     BeginsWith log front       a history begins with another
--     longer, shorter            of two histories the longer and the shorter
use Rattle.std.specs.Prelude.{◌≡◌, ℕ, ◌==◌, List, ◌++◌, length, nat_le, if◌then◌else◌}
use Rattle.std.specs.List.{filter}

module _ {E : Type 0} where
  -- the entries of the number n, in order
  abbrev pub of_number : (E → ℕ) → ℕ → List E → List E
  of_number number n log = filter (λ e. number e == n) log

  -- the history begins with these entries
  abbrev pub BeginsWith : List E → List E → Type 0
  BeginsWith log front = (rest : List E) × (log ≡ front ++ rest)

  -- the longer of two histories, and the second where they have one length
  abbrev pub longer : List E → List E → List E
  longer a b = if nat_le (length a) (length b) then b else a

  -- the other one
  abbrev pub shorter : List E → List E → List E
  shorter a b = if nat_le (length a) (length b) then a else b
