use Rattle.std.proofs.Common.{◌≡◌, ◌-◌, ◌++◌, length, replicate}
use Rattle.ff_field.proofs.values.Value.padded.Given as goal

abbrev pub invariant-zeros : goal.invariant-zeros
invariant-zeros l = l.digits.items ≡ l.c ++ replicate (l._k - length l.c) 0
