use Rattle.std.proofs.Common.{◌≡◌, ◌<◌, ◌++◌, map, length}
use Rattle.std.specs.Prelude.{All, decimal}
use Rattle.lat_language.specs.PrivateCoefficients.{between_commas}
use Rattle.lat_language.proofs.digits.read_digits.Given as goal

-- the numbers so far, and then the parts of the rest, are the parts of the word
abbrev pub invariant-loop-part : goal.invariant-loop-part
invariant-loop-part l = record {
  parts : map decimal l.numbers.items ++ between_commas l.rest ≡ between_commas l.word;
  small : All (λ n. n < 256) l.numbers.items;
}

abbrev pub decreases-loop-part : goal.decreases-loop-part
decreases-loop-part l = length l.rest
