-- What a call does to the bytes that a sink holds: `Some` of those bytes where the sink tells them,
-- and `None` where it doesn't, of which nothing is claimed. That bytes were appended is std's
-- `Appends`.
--     AppendsPart old new bytes     the first of these bytes were appended, and not all of them
use Rattle.std.specs.Prelude.{ℕ, ◌<◌, List, length, take, Option}
use Rattle.std.specs.Io.KnownBytes.{Appends}

-- some of the bytes, from their front, were appended, and not all of them
abbrev pub AppendsPart : Option (List ℕ) → Option (List ℕ) → List ℕ → Type 0
AppendsPart old new bytes = (count : ℕ) × (count < length bytes)
    × Appends old new (take count bytes)
