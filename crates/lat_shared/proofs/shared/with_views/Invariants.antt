use Rattle.std.proofs.Common.{◌≡◌, ◌++◌, length}
use Rattle.std.specs.Vec.Iter.{into_iter_items, into_iter_len}
use Rattle.lat_shared.specs.PrivatePasses.{passes_from}
use Rattle.lat_shared.proofs.shared.with_views.Given as goal

abbrev pub invariant-loop-pass : goal.invariant-loop-pass
invariant-loop-pass l = (l.yielded ++ into_iter_items l.pass-iterator ≡ into_iter_items l.initial.pass-iterator)
    × (into_iter_len l.pass-iterator ≡ length (into_iter_items l.pass-iterator))
    × (l.passes.items ≡ passes_from 1 l.front l.yielded)
