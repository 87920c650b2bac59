use Rattle.std.proofs.Common.{◌≡◌, ◌+◌, ◌*◌, ◌≤◌, ◌++◌, length, take}
use Rattle.lat_language.specs.Texts.{listed_text}
use Rattle.lat_audit.specs.declared.verdict_lines.TheConstants.{MAX_LISTED}
use Rattle.lat_audit.proofs.verdict_lines.put_all.Given as goal

-- the numbers so far are appended, and none has more bytes than there is room for
abbrev pub invariant-loop-number : goal.invariant-loop-number
invariant-loop-number l =
    (l.bytes.items ≡ l.fn.bytes.items ++ listed_text (take l.number-index l.numbers))
    × (length l.bytes.items ≤ length l.fn.bytes.items + l.number-index * MAX_LISTED)
