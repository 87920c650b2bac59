use Rattle.std.proofs.Common.{◌≡◌, ℕ, ◌+◌, ◌<◌, ◌≤◌, ◌^◌, length, slice_index, All}
use Rattle.ff_factor.specs.PrivateCounting.{number}
use Rattle.ff_factor.proofs.least.advance.Given as goal

abbrev pub invariant-loop-i : goal.invariant-loop-i
invariant-loop-i l = record {
  size : length l.digits ≡ length l.initial.digits;
  residues : All (λ x. x < l.fn.p) l.digits;
  number : number l.fn.p l.digits + l.fn.p ^ l.i ≡ number l.fn.p l.initial.digits + 1;
}
