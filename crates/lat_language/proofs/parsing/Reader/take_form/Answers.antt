-- The line is a command, begins a session, schedules sessions, or has no form.
use Rattle.std.proofs.Common.{sym}
use Rattle.lat_language.specs.Grammar.{words_of}
use Rattle.lat_language.proofs.CommandWords.{none_read, read_spelled}
use Rattle.lat_language.proofs.LineMeanings.{says_no_form}
use Rattle.lat_language.proofs.ParsedLines.{takes_command, takes_session, takes_schedule}
use Rattle.lat_language.proofs.parsing.Reader.take_form.Goals as goal

pub returns-in-Some : goal.returns-in-Some
returns-in-Some c =
    takes_command c.args.self.now c.add_command.new.self c.args.line.now c.requires.fits c.requires.begun
    c.in-Some.command (read_spelled (words_of c.args.line.now) c.in-Some.command (sym c.in-Some.ensures))
    c.add_command.result c.add_command.ensures

pub returns-in-Some-session_name : goal.returns-in-Some-session_name
returns-in-Some-session_name c =
    takes_session c.args.self.now c.add_session.new.self c.args.line.now c.requires.fits c.requires.begun
    c.in-Some-session_name.name c.in-Some-session_name.ensures c.add_session.result c.add_session.ensures

pub returns-in-Some-scheduled_names : goal.returns-in-Some-scheduled_names
returns-in-Some-scheduled_names c =
    takes_schedule c.args.self.now c.add_schedule.new.self c.args.line.now c.requires.fits c.requires.begun
    (words_of c.in-Some-scheduled_names.names.now) c.in-Some-scheduled_names.ensures c.add_schedule.result c.add_schedule.ensures

pub returns-in-None : goal.returns-in-None
returns-in-None c =
    says_no_form c.args.self.now c.args.line.now c.requires.fits c.requires.begun c.requires.other
    (λ command. none_read (words_of c.args.line.now) command (sym c.in_default.ensures))
    c.in_default-session_name.ensures c.in-None.ensures
