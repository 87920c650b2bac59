use Rattle.std.proofs.Common.{◌≡◌, ◌++◌, take, map}
use Rattle.std.specs.List.{join_with_byte}
use Rattle.lat_audit.specs.PrivateDumps.{word_text}
use Rattle.lat_audit.proofs.lines.add_line.Given as goal

-- the words so far are appended
abbrev pub invariant-loop-i : goal.invariant-loop-i
invariant-loop-i l =
    l.out.items ≡ l.fn.out.items ++ join_with_byte 32 (map word_text (take l.i l.words))
