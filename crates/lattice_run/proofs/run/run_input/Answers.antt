-- What is written of the script that was read.
use Rattle.lat_session.specs.Outcomes.{operations_of}
use Rattle.lattice_run.proofs.Running.{read_playable, ran_output}
use Rattle.lattice_run.proofs.run.run_input.Goals as goal

pub played-requires : goal.played-requires
played-requires g c = read_playable c.in-Ok.script c.in-Ok.ensures.read.0

pub returns-in-Ok-clause-ran : goal.returns-in-Ok-clause-ran
returns-in-Ok-clause-ran g c =
    ran_output _ _ _ _ c.answer.result (λ text. text.items) c.played.result c.args.output _ c.in-Ok.script c.in-Ok.ensures.read.0
    c.in-Ok.ensures.read.1 c.played.ensures c.answer.ensures

pub returns-in-Err-clause-ran : goal.returns-in-Err-clause-ran
returns-in-Err-clause-ran g c =
    c.in-Err.ensures.read (operations_of c.args.ops.now.first c.args.ops.now.second c.args.ops.now.third) c.args.output
