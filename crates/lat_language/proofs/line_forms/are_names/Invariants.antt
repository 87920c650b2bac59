use Rattle.std.proofs.Common.{length}
use Rattle.std.specs.Prelude.{◌↔◌, All}
use Rattle.lat_core.specs.Names.{IsDeclaredName}
use Rattle.lat_language.specs.Grammar.{words_of}
use Rattle.lat_language.proofs.line_forms.are_names.Given as goal

-- the words that are left are names where all words are
abbrev pub invariant-loop-word : goal.invariant-loop-word
invariant-loop-word l = All IsDeclaredName (words_of l.rest) ↔ All IsDeclaredName (words_of l.text)

abbrev pub decreases-loop-word : goal.decreases-loop-word
decreases-loop-word l = length l.rest
