-- The summary is delivered.
use Rattle.lattice_run.proofs.Running.{ran_summary}
use Rattle.lattice_run.proofs.run.run_gen.Goals as goal

pub returns : goal.returns
returns g c = λ source.
    ran_summary source source _ _ c.answer.result (λ text. text.items) c.summary.result c.args.seed c.args.fields c.args.embeds c.summary.ensures
    c.answer.ensures
