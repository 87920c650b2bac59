use Rattle.std.proofs.Common.{◌≡◌, ◌++◌, length, map, take, All}
use Rattle.std.specs.Vec.Iter.{into_iter_items, into_iter_len}
use Rattle.lat_sharing.proofs.plays.jobs_of.Given as goal

-- the jobs of the passes so far
abbrev pub invariant-loop-pass : goal.invariant-loop-pass
invariant-loop-pass g l = (l.yielded ++ into_iter_items l.pass-iterator ≡ into_iter_items l.initial.pass-iterator)
    × (into_iter_len l.pass-iterator ≡ length (into_iter_items l.pass-iterator))
    × (map (λ job. job.pass) l.jobs.items ≡ l.yielded)
    × (map (λ job. job.commands.now) l.jobs.items
    ≡ map (λ session. session.commands) (take (length l.yielded) l.sessions))
    × All (λ job. job.shared.now ≡ l.shared) l.jobs.items
    × All (λ job. job.ops.now ≡ l.ops) l.jobs.items
