use Rattle.std.proofs.Common.{◌≡◌, ◌++◌, take}
use Rattle.lat_language.specs.Commands.{digits_text}
use Rattle.lat_audit.proofs.lines.put_numbers.Given as goal

-- the numbers so far are appended
abbrev pub invariant-loop-i : goal.invariant-loop-i
invariant-loop-i l = l.out.items ≡ l.fn.out.items ++ digits_text (take l.i l.numbers)
