-- The lines of a transcript.
--     values_text vs, listed_text ns       several values, and numbers, as lines have them
--     step_text r, refusal_text r          what follows `refused`, for a change and for a session
--     reply_text r, outcome_text o         the answer to a command, without its mark
--     line_text line                       a line of the transcript
--     session_text name                    the line before those of a session
--     summary_text fields maps changes     the last line of the transcript
--     bad_line_text, too_long_text         the lines for a bad script, and for one that is too long
--     usage_text                           the line for words that aren't a command
use Rattle.std.specs.Prelude.{ℕ, List, [], ◌++◌, map, flat_map, if◌then◌else◌, codes, decimal}
use Rattle.std.specs.List.{join_with_byte}
use Rattle.lat_core.specs.declared.replies.StepRefusal.{StepRefusal}
use Rattle.lat_core.specs.declared.replies.StepRefusal.TheVariants as step
use Rattle.lat_core.specs.declared.replies.Reply.{Reply}
use Rattle.lat_core.specs.declared.replies.Reply.TheVariants as reply
use Rattle.lat_core.specs.declared.outcomes.SessionRefusal.{SessionRefusal}
use Rattle.lat_core.specs.declared.outcomes.SessionRefusal.TheVariants as session
use Rattle.lat_core.specs.declared.outcomes.Outcome.{Outcome}
use Rattle.lat_core.specs.declared.outcomes.Outcome.TheVariants as outcome
use Rattle.lat_core.specs.declared.outcomes.Line.{Line}
use Rattle.lat_language.specs.Commands.{digits_text}

-- coefficient lists joined by semicolons; 59 is the semicolon
unfoldable pub values_text : List (List ℕ) → List ℕ
values_text values = join_with_byte 59 (map digits_text values)

-- each number behind a space
abbrev pub listed_text : List ℕ → List ℕ
listed_text numbers = flat_map (λ n. codes " " ++ decimal n) numbers

abbrev pub step_text : StepRefusal → List ℕ
step_text (step.NotInTable n) = codes "1 " ++ decimal n
step_text (step.DegreeOutOfRange n) = codes "2 " ++ decimal n
step_text (step.CoefficientTooLarge place) = codes "3 " ++ decimal place
step_text step.NotMonic = codes "4"
step_text (step.NameTaken number) = codes "5 " ++ decimal number
step_text (step.Reducible factor) = codes "6 " ++ digits_text factor.coefficients
step_text (step.TooManyFields have need) =
    codes "7 " ++ decimal have ++ codes " " ++ decimal need
step_text (step.UnknownField name) = codes "8 " ++ name
step_text (step.DifferentCharacteristic p q) = codes "9 " ++ decimal p ++ codes " " ++ decimal q
step_text (step.DegreeDoesNotDivide m n) = codes "10 " ++ decimal m ++ codes " " ++ decimal n
step_text (step.WrongField number) = codes "11 " ++ decimal number
step_text step.NoCompatibleRoot = codes "12"

abbrev pub refusal_text : SessionRefusal → List ℕ
refusal_text (session.CoefficientTooLarge place) = codes "3 " ++ decimal place
refusal_text (session.UnknownField name) = codes "8 " ++ name
refusal_text (session.NotEmbedded i j) = codes "14 " ++ decimal i ++ codes " " ++ decimal j
refusal_text session.NotInImage = codes "15"
refusal_text (session.NoCommonField a b) = codes "16 " ++ decimal a ++ codes " " ++ decimal b
refusal_text (session.UnknownVariable name) = codes "17 " ++ name
refusal_text session.ZeroInverse = codes "18"
refusal_text session.TooManyVariables = codes "19"
refusal_text (session.TooManyCoefficients len) = codes "20 " ++ decimal len
refusal_text (session.HistoryFull len) = codes "21 " ++ decimal len

abbrev pub reply_text : Reply → List ℕ
reply_text (reply.Declared number already) =
    codes "ok field " ++ decimal number ++ (if already then codes " already" else [])
reply_text (reply.Embedded image made linked) =
    codes "ok embed " ++ digits_text image ++ codes " made " ++ decimal made ++ codes " linked "
    ++ decimal linked
reply_text reply.Synced = codes "ok sync"
reply_text (reply.Refused refusal) = codes "refused " ++ step_text refusal

abbrev pub outcome_text : Outcome → List ℕ
outcome_text (outcome.Changed answer) = reply_text answer
outcome_text (outcome.Val name value) = codes "ok " ++ name ++ codes " " ++ digits_text value
outcome_text (outcome.Image value) = codes "ok map " ++ digits_text value
outcome_text (outcome.Named name) = codes "ok is " ++ name
outcome_text (outcome.Numbers numbers) = codes "ok list" ++ listed_text numbers
outcome_text (outcome.Poly poly) = codes "ok poly " ++ digits_text poly.coefficients
outcome_text (outcome.RelPoly poly) = codes "ok relpoly " ++ values_text poly
outcome_text (outcome.Counted fields maps) =
    codes "ok count " ++ decimal fields ++ codes " " ++ decimal maps
outcome_text (outcome.Refused refusal) = codes "refused " ++ refusal_text refusal

abbrev pub line_text : Line → List ℕ
line_text line = outcome_text line.outcome ++ codes " @" ++ decimal line.mark ++ codes "\n"

abbrev pub session_text : List ℕ → List ℕ
session_text name = codes "session " ++ name ++ codes "\n"

abbrev pub summary_text : ℕ → ℕ → ℕ → List ℕ
summary_text fields maps changes =
    codes "summary fields " ++ decimal fields ++ codes " maps " ++ decimal maps
    ++ codes " changes " ++ decimal changes ++ codes "\n"

abbrev pub bad_line_text : ℕ → ℕ → List ℕ
bad_line_text number kind =
    codes "bad script line " ++ decimal number ++ codes " kind " ++ decimal kind ++ codes "\n"

abbrev pub too_long_text : ℕ → List ℕ
too_long_text limit = codes "bad script longer than " ++ decimal limit ++ codes " bytes\n"

abbrev pub usage_text : List ℕ
usage_text = codes "usage: lattice_tool solo|share|dump|audit|gen SEED FIELDS EMBEDS\n"
