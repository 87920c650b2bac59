-- What the run's way out says.
use Rattle.std.proofs.Common.{◌≡◌, ◌∙◌, ap, subst, map, Some}
use Rattle.std.specs.Prelude.{string_bytes}
use Rattle.lattice_run.specs.declared.tasks.Output.TheVariants.{SharedTranscript}
use Rattle.lattice_run.specs.declared.tasks.Task.TheVariants.{Play}
use Rattle.lattice_run.specs.Tasks.{Asks}
use Rattle.lattice_run.proofs.Threaded.{ran_with_threads}
use Rattle.lattice_run.proofs.Statuses.{headline}
use Rattle.lattice_run.proofs.run.run_tool.Goals as goal

pub returns-in-Some-Play-SharedTranscript : goal.returns-in-Some-Play-SharedTranscript
returns-in-Some-Play-SharedTranscript g c =
    let played = c.in-Some-Play-SharedTranscript in
    let is : c.task_of-asked.result ≡ Some (Play SharedTranscript)
    = let a : played.field-0 ≡ Play played.field-0-0 = rw (played.is) at played.field-0-is in
    let b : played.field-0-0 ≡ SharedTranscript = rw (played.is, a) at played.field-0-0-is in
    played.is ∙ ap Some (a ∙ ap Play b) in
    headline _ _ _ _ _ _ _ _ _ (subst (Asks (map string_bytes c.args.words.now)) is c.task_of-asked.ensures) c.run_shared.ensures.ran c.run_shared.ensures.taken

pub returns : goal.returns
returns g c = headline _ _ _ _ _ _ _ _ _ c.task_of-asked.ensures (ran_with_threads c.run.ensures.ran) c.run.ensures.taken
