use Rattle.std.proofs.Common.{◌≡◌, ◌++◌, take, map}
use Rattle.std.specs.Prelude.{flat_map}
use Rattle.lat_language.specs.Commands.{command_words}
use Rattle.lat_language.specs.CanonicalText.{line_of}
use Rattle.lat_language.proofs.printing.add_commands.Given as goal

-- the lines of the commands so far are appended
abbrev pub invariant-loop-command : goal.invariant-loop-command
invariant-loop-command l = l.out.items
    ≡ l.fn.out.items ++ flat_map line_of (map command_words (take l.command-index l.commands))
