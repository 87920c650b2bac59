use Rattle.std.proofs.Common.{◌≡◌, ◌+◌, ◌*◌, ◌^◌, ◌<◌}
use Rattle.std.specs.Prelude.{All}
use Rattle.arrayvec.specs.ArrayVec.{array_vec_len}
use Rattle.lattice_tests.specs.Numbering.{number_of}
use Rattle.lattice_tests.proofs.trial_division.digits_of.Given as goal

abbrev pub invariant-loop-place : goal.invariant-loop-place
invariant-loop-place l = record {
  filled : array_vec_len l.digits ≡ l._place;
  residues : All (λ a. a < l.fn.p) l.digits.items;
  value : number_of l.fn.p l.digits.items + l.fn.p ^ l._place * l.rest ≡ l.number;
}
