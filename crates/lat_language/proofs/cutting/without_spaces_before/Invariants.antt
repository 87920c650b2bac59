use Rattle.std.proofs.Common.{◌≡◌, drop}
use Rattle.lat_language.specs.Grammar.{words_of}
use Rattle.lat_language.proofs.cutting.without_spaces_before.Given as goal

-- the bytes so far are spaces
abbrev pub invariant-loop-i : goal.invariant-loop-i
invariant-loop-i l = words_of (drop l.i l.text) ≡ words_of l.text
