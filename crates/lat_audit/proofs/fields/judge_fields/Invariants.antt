use Rattle.std.proofs.Common.{◌≡◌, ℕ, ◌<◌, take}
use Rattle.lat_audit.specs.Verdicts.{IsReducible}
use Rattle.lat_audit.proofs.fields.judge_fields.Given as goal

-- the rows so far are fields
abbrev pub invariant-loop-number : goal.invariant-loop-number
invariant-loop-number l = record {
  fields : l.fields.items ≡ take l.number l.rows;
  irreducible : (k : ℕ) → k < l.number → IsReducible l.rows k → ⊥;
}
