use Rattle.std.proofs.Common.{ℕ, ◌<◌}
use Rattle.lat_audit.specs.PrivateRules.{HasPrimeSubfield}
use Rattle.lat_audit.proofs.rules.without_prime_subfield.Given as goal

-- the fields so far have their prime subfields
abbrev pub invariant-loop-j : goal.invariant-loop-j
invariant-loop-j l = (k : ℕ) → k < l.j → HasPrimeSubfield l.table k
