use Rattle.std.proofs.Common.{◌≡◌, ◌++◌, take}
use Rattle.lat_language.specs.Texts.{listed_text}
use Rattle.lat_language.proofs.appending.put_listed.Given as goal

-- the numbers so far are appended
abbrev pub invariant-loop-number : goal.invariant-loop-number
invariant-loop-number l = l.out.items ≡ l.fn.out.items ++ listed_text (take l.number-index l.numbers)
