-- The transcript of the script that was read.
use Rattle.lat_session.specs.Outcomes.{operations_of}
use Rattle.lattice_run.specs.declared.tasks.Output.TheVariants.{SharedTranscript}
use Rattle.lattice_run.proofs.Running.{read_playable, ran_output}
use Rattle.lattice_run.proofs.Threaded.{ran_with_threads}
use Rattle.lattice_run.proofs.run.run_shared.Goals as goal

pub shared_transcript-requires-after_bounds : goal.shared_transcript-requires-after_bounds
shared_transcript-requires-after_bounds g c κs within = read_playable c.in-Ok.script c.in-Ok.ensures.read.0

pub returns-in-Ok-clause-ran : goal.returns-in-Ok-clause-ran
returns-in-Ok-clause-ran g c =
    ran_output _ _ _ _ c.answer.result (λ text. text.items) c.shared_transcript.result SharedTranscript _ c.in-Ok.script c.in-Ok.ensures.read.0
    c.in-Ok.ensures.read.1 c.shared_transcript.ensures c.answer.ensures

pub returns-in-Err-clause-ran : goal.returns-in-Err-clause-ran
returns-in-Err-clause-ran g c =
    ran_with_threads (c.in-Err.ensures.read (operations_of c.args.ops.now.first c.args.ops.now.second c.args.ops.now.third) SharedTranscript)
