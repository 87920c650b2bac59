use Rattle.std.proofs.Common.{◌+◌, ◌≤◌, length}
use Rattle.lat_language.proofs.ParsedLines.{ReadSoFar}
use Rattle.lat_language.proofs.parsing.read.Given as goal

-- the reader is where the lines so far have led
abbrev pub invariant-loop-line : goal.invariant-loop-line
invariant-loop-line l = record {
  read : ReadSoFar l.reader l.number l.rest l.bytes;
  counted : l.number + length l.rest ≤ length l.bytes + 1;
}

abbrev pub decreases-loop-line : goal.decreases-loop-line
decreases-loop-line l = length l.rest
