use Rattle.std.proofs.Common.{ℕ, ◌<◌}
use Rattle.lat_audit.specs.PrivateRules.{HasIdentity}
use Rattle.lat_audit.proofs.rules.without_identity.Given as goal

-- the identities of the fields so far are stored
abbrev pub invariant-loop-i : goal.invariant-loop-i
invariant-loop-i l = (k : ℕ) → k < l.i → HasIdentity l.table k
