-- The script, the line for its fault, or want of memory.
use Rattle.std.proofs.Common.{◌∙◌, ap, ap₂, refl, inl}
use Rattle.std.specs.Prelude.{Err}
use Rattle.lat_language.specs.Texts.{bad_line_text}
use Rattle.lattice_run.specs.PrivateRuns.AnswersInput.{unanswered}
use Rattle.lattice_run.proofs.Running.{answered_bad}
use Rattle.lattice_run.proofs.run.spelled_script.Goals as goal

pub returns-in-Ok : goal.returns-in-Ok
returns-in-Ok g c = (c.in-Ok.ensures.script, refl)

pub returns-in-Err-Line : goal.returns-in-Err-Line
returns-in-Err-Line g c = λ operations wanted.
    answered_bad wanted c.args.input.now _ _ c.deliver.result c.in-Err-Line.number c.in-Err-Line.kind c.bytes.result.now c.requires
    (c.parse.ensures.fault c.in-Err-Line.number c.in-Err-Line.kind (c.in-Err-Line.is ∙ ap Err c.in-Err-Line.field-0-is))
    (c.bytes.ensures ∙ c.bad_line.ensures ∙ ap₂ bad_line_text c.in-Err-Line.number-is c.in-Err-Line.kind-is) c.deliver.ensures

pub returns-in-Err-NoMemory : goal.returns-in-Err-NoMemory
returns-in-Err-NoMemory g c = λ operations wanted.
    unanswered (inl (c.parse.ensures.memory (c.in-Err-NoMemory.is ∙ ap Err c.in-Err-NoMemory.field-0-is))) refl refl
