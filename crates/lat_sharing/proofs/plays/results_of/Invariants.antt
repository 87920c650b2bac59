use Rattle.std.proofs.Common.{◌≡◌, ◌++◌, length, map, Ok}
use Rattle.std.specs.Vec.Iter.{into_iter_items, into_iter_len}
use Rattle.lat_sharing.proofs.plays.results_of.Given as goal

-- the passes and the texts of the jobs so far
abbrev pub invariant-loop-job : goal.invariant-loop-job
invariant-loop-job g l = (l.yielded ++ into_iter_items l.job-iterator ≡ into_iter_items l.initial.job-iterator)
    × (into_iter_len l.job-iterator ≡ length (into_iter_items l.job-iterator))
    × (l.passes.items ≡ map (λ job. job.pass) l.yielded)
    × (map (λ text. Ok text) l.texts.items ≡ map (λ job. job.text) l.yielded)
