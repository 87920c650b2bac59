-- What is asked for, by its cases.
use Rattle.std.proofs.Common.{◌≡◌, Some, rules}
use Rattle.lattice_run.specs.declared.tasks.Task.TheVariants.{Play, Audit, Gen}
use Rattle.lattice_run.proofs.Running.{ran_for, ran_usage}
use Rattle.lattice_run.proofs.run.run.Goals as goal

pub returns-in-None-clause-ran : goal.returns-in-None-clause-ran
returns-in-None-clause-ran g c =
    ran_for _ _ _ _ _ _ _ c.in-None.is (ran_usage _ _ _ c.deliver.result c.usage_line.result.now c.usage_line.ensures c.deliver.ensures)

pub returns-in-Some-Play-clause-ran : goal.returns-in-Some-Play-clause-ran
returns-in-Some-Play-clause-ran g c =
    let asked : c.args.asked ≡ Some (Play c.in-Some-Play.output) = search rules in
    ran_for _ _ _ _ _ _ _ asked c.run_input.ensures.ran

pub returns-in-Some-Audit-clause-ran : goal.returns-in-Some-Audit-clause-ran
returns-in-Some-Audit-clause-ran g c =
    let asked : c.args.asked ≡ Some Audit = search rules in
    ran_for _ _ _ _ _ _ _ asked (c.run_audit.ensures.ran _)

pub returns-in-Some-Gen-clause-ran : goal.returns-in-Some-Gen-clause-ran
returns-in-Some-Gen-clause-ran g c =
    let asked : c.args.asked ≡ Some (Gen c.in-Some-Gen.seed c.in-Some-Gen.fields c.in-Some-Gen.embeds) = search rules in
    ran_for _ _ _ _ _ _ _ asked (c.run_gen.ensures _)
