-- Each session has played its commands.
use Rattle.std.proofs.Common.{◌≡◌, length, map, drop, sym, ap, ◌∙◌, subst, arith, Ok}
use Rattle.std.specs.Prelude.{All, IfOk}
use Rattle.std.proofs.lemmas.List.Elements.{All-weaker}
use Rattle.lat_session.specs.Outcomes.{operations_of}
use Rattle.lat_shared.specs.Sharing.{SharedPass, IsPassOf}
use Rattle.lat_sharing.specs.PrivateSharings.{HavePlayed}
use Rattle.lat_sharing.proofs.JobLists.{all_ready, all_played, all_of_shared, all_numbers, both_then, written}
use Rattle.lat_sharing.proofs.plays.play_sessions.Goals as goal

pub run_jobs-requires-after_bounds : goal.run_jobs-requires-after_bounds
run_jobs-requires-after_bounds g c κs within =
    all_ready (λ job. job.shared.now) (λ job. job.commands.now) (λ job. job.pass) c.args.shared.now c.requires.edition
    c.deref_mut.result.now c.args.passes.items c.args.sessions.now
    (ap (map (λ job. job.pass)) c.deref_mut.ensures.value ∙ c.in_ok-jobs.ensures.passes)
    (ap (map (λ job. job.commands.now)) c.deref_mut.ensures.value ∙ c.in_ok-jobs.ensures.commands)
    (subst (All (λ job. job.shared.now ≡ c.args.shared.now)) (sym c.deref_mut.ensures.value) c.in_ok-jobs.ensures.shared)
    c.requires.of_shared c.requires.proper

pub returns-clause-played : goal.returns-clause-played
returns-clause-played g c =
    let news = c.run_jobs.new.jobs in
    let olds = c.deref_mut.result.now in
    let after = written c.in_ok-jobs.jobs.len news (drop (length news) c.in_ok-jobs.jobs.items)
    (omega (arith, c.run_jobs.ensures.count, c.deref_mut.ensures.len)) in
    let passes_were = ap (map (λ job. job.pass)) c.deref_mut.ensures.value ∙ c.in_ok-jobs.ensures.passes in
    let passes_are = subst (λ jobs. IfOk c.results_of.result (λ made. made.0.items ≡ map (λ job. job.pass) jobs)) after c.results_of.ensures.passes in
    let operations = operations_of c.args.ops.now.first c.args.ops.now.second c.args.ops.now.third in
    let same = All-weaker (λ job. job.ops.now ≡ c.args.ops.now) (λ job. operations_of job.ops.now.first job.ops.now.second job.ops.now.third ≡ operations)
    (λ job e. ap (λ ops. operations_of ops.first ops.second ops.third) e) olds
    (subst (All (λ job. job.ops.now ≡ c.args.ops.now)) (sym c.deref_mut.ensures.value) c.in_ok-jobs.ensures.operations) in
    both_then (λ made. made.0.items ≡ map (λ job. job.pass) news) (λ made. map (λ text. Ok text) made.1.items ≡ map (λ job. job.text) news)
    (λ made. HavePlayed operations c.args.sessions.now c.args.passes.items made.0.items (map (λ text. text.items) made.1.items))
    c.results_of.result passes_are
    (subst (λ jobs. IfOk c.results_of.result (λ made. map (λ text. Ok text) made.1.items ≡ map (λ job. job.text) jobs)) after c.results_of.ensures.texts)
    (λ made passes texts.
    subst (λ ps. HavePlayed operations c.args.sessions.now ps made.0.items (map (λ text. text.items) made.1.items)) passes_were
    (subst (λ ps. HavePlayed operations c.args.sessions.now (map (λ job. job.pass) olds) ps (map (λ text. text.items) made.1.items)) (sym passes)
    (all_played (λ text. text.items) (λ job. job.shared.now) (λ job. operations_of job.ops.now.first job.ops.now.second job.ops.now.third)
    (λ job. job.commands.now) (λ job. job.pass) (λ job. job.text) operations olds news c.args.sessions.now made.1.items
    (ap (map (λ job. job.commands.now)) c.deref_mut.ensures.value ∙ c.in_ok-jobs.ensures.commands)
    same c.run_jobs.ensures.count c.run_jobs.ensures.ran texts)))

pub returns-clause-of_shared : goal.returns-clause-of_shared
returns-clause-of_shared g c =
    let news = c.run_jobs.new.jobs in
    let olds = c.deref_mut.result.now in
    let after = written c.in_ok-jobs.jobs.len news (drop (length news) c.in_ok-jobs.jobs.items)
    (omega (arith, c.run_jobs.ensures.count, c.deref_mut.ensures.len)) in
    let passes_are = subst (λ jobs. IfOk c.results_of.result (λ made. made.0.items ≡ map (λ job. job.pass) jobs)) after c.results_of.ensures.passes in
    both_then (λ made. made.0.items ≡ map (λ job. job.pass) news) (λ made. made.0.items ≡ map (λ job. job.pass) news)
    (λ made. All (IsPassOf c.args.shared.now) made.0.items) c.results_of.result passes_are passes_are
    (λ made passes same. subst (All (IsPassOf c.args.shared.now)) (sym passes)
    (all_of_shared (λ text. text.items) (λ job. job.shared.now) (λ job. operations_of job.ops.now.first job.ops.now.second job.ops.now.third)
    (λ job. job.commands.now) (λ job. job.pass) (λ job. job.text) c.args.shared.now olds news
    (subst (All (λ job. job.shared.now ≡ c.args.shared.now)) (sym c.deref_mut.ensures.value) c.in_ok-jobs.ensures.shared)
    c.run_jobs.ensures.count c.run_jobs.ensures.ran))

pub returns-clause-numbers : goal.returns-clause-numbers
returns-clause-numbers g c =
    let news = c.run_jobs.new.jobs in
    let olds = c.deref_mut.result.now in
    let after = written c.in_ok-jobs.jobs.len news (drop (length news) c.in_ok-jobs.jobs.items)
    (omega (arith, c.run_jobs.ensures.count, c.deref_mut.ensures.len)) in
    let passes_were = ap (map (λ job. job.pass)) c.deref_mut.ensures.value ∙ c.in_ok-jobs.ensures.passes in
    let passes_are = subst (λ jobs. IfOk c.results_of.result (λ made. made.0.items ≡ map (λ job. job.pass) jobs)) after c.results_of.ensures.passes in
    both_then (λ made. made.0.items ≡ map (λ job. job.pass) news) (λ made. made.0.items ≡ map (λ job. job.pass) news)
    (λ made. map (λ (pass : SharedPass). pass.number) made.0.items ≡ map (λ (pass : SharedPass). pass.number) c.args.passes.items)
    c.results_of.result passes_are passes_are
    (λ made passes same. ap (map (λ (pass : SharedPass). pass.number)) passes
    ∙ all_numbers (λ text. text.items) (λ job. job.shared.now) (λ job. operations_of job.ops.now.first job.ops.now.second job.ops.now.third)
    (λ job. job.commands.now) (λ job. job.pass) (λ job. job.text) olds news c.run_jobs.ensures.count c.run_jobs.ensures.ran
    ∙ ap (map (λ (pass : SharedPass). pass.number)) passes_were)
