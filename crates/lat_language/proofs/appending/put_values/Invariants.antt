use Rattle.std.proofs.Common.{◌≡◌, ◌++◌, take}
use Rattle.lat_language.specs.Texts.{values_text}
use Rattle.lat_language.proofs.appending.put_values.Given as goal

-- the values so far are appended
abbrev pub invariant-loop-i : goal.invariant-loop-i
invariant-loop-i l = l.out.items ≡ l.fn.out.items ++ values_text (take l.i l.values)
