-- What a call does to the bytes that a source has left: `Some` of those bytes where the source
-- tells them, and `None` where it doesn't, of which nothing is claimed.
--     ReadWhole old new bytes         these bytes are all that was left, and nothing is left
--     TakesFront old new count        this many bytes were taken, from the front
--     TakesAtMost old new limit       some number of bytes up to a limit was taken, from the front
--     TakesSome old new limit         the same, and at least one byte
--     TookBefore fault limit old new  what was taken before `read_all` answered a fault
use Rattle.std.specs.Prelude.{◌≡◌, ℕ, ◌+◌, ◌<◌, ◌≤◌, List, [], length, drop, Option, None, Some, ⊤}
use Rattle.lat_io.specs.declared.faults.ReadFault.{ReadFault}
use Rattle.lat_io.specs.declared.faults.ReadFault.TheVariants.{Failed, TooLong, NoMemory}

-- the bytes are all that was left, and nothing is left
abbrev pub ReadWhole : Option (List ℕ) → Option (List ℕ) → List ℕ → Type 0
ReadWhole None new bytes = ⊤
ReadWhole (Some left) new bytes = (bytes ≡ left) × (new ≡ Some [])

-- the first `count` bytes that were left were taken, and there were as many
abbrev pub TakesFront : Option (List ℕ) → Option (List ℕ) → ℕ → Type 0
TakesFront None new count = ⊤
TakesFront (Some left) new count = (count ≤ length left) × (new ≡ Some (drop count left))

-- the first bytes that were left were taken, at most `limit` of them
abbrev pub TakesAtMost : Option (List ℕ) → Option (List ℕ) → ℕ → Type 0
TakesAtMost old new limit = (count : ℕ) × (count ≤ limit) × TakesFront old new count

-- the first bytes that were left were taken, at least one of them and at most `limit`
abbrev pub TakesSome : Option (List ℕ) → Option (List ℕ) → ℕ → Type 0
TakesSome old new limit = (count : ℕ) × (0 < count) × (count ≤ limit) × TakesFront old new count

-- One byte more than the limit was taken exactly where the fault is `TooLong`, with that count.
-- Memory is wanting only where a byte was taken.
abbrev pub TookBefore : ReadFault → ℕ → Option (List ℕ) → Option (List ℕ) → Type 0
TookBefore Failed limit old new = TakesAtMost old new limit
TookBefore (TooLong count) limit old new = (count ≡ limit + 1) × TakesFront old new (limit + 1)
TookBefore NoMemory limit old new = TakesSome old new limit
