-- The parts are the canonical text.
use Rattle.std.proofs.Common.{◌++◌, map, ap, ap₂, ◌∙◌}
use Rattle.std.specs.Prelude.{flat_map}
use Rattle.lat_language.specs.Commands.{command_words}
use Rattle.lat_language.specs.Grammar.{header_words}
use Rattle.lat_language.specs.CanonicalText.{line_of, name_at, schedule_lines, session_lines}
use Rattle.lat_language.proofs.AppendedTexts.{canonical_made}
use Rattle.lat_language.proofs.printing.print_script.Goals as goal

pub returns : goal.returns
returns c = canonical_made c.args.script.now _ _ _ _
    (c.in_ok-add_header.ensures ∙ ap (λ t. t ++ line_of header_words) c.new-out.ensures.items)
    (c.in_ok-add_commands.ensures ∙ ap (λ commands. c.add_header.new.out.items ++ flat_map line_of (map command_words commands)) c.items.ensures)
    (c.in_ok-add_sessions.ensures ∙ ap (λ sessions. c.add_commands.new.out.items ++ flat_map line_of (flat_map session_lines sessions)) c.items-2.ensures)
    (c.in_ok-add_schedule.ensures ∙ ap₂ (λ sessions places. c.add_sessions.new.out.items ++ flat_map line_of (schedule_lines (map (name_at sessions) places))) c.items-sessions.ensures c.items-3.ensures)
