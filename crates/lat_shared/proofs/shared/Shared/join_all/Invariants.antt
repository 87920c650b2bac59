use Rattle.std.proofs.Common.{◌≡◌, ◌++◌, length}
use Rattle.std.specs.Prelude.{All}
use Rattle.std.specs.Vec.Iter.{into_iter_items, into_iter_len}
use Rattle.lat_gate.specs.Passes.{known}
use Rattle.lat_shared.specs.Sharing.{IsPassOf}
use Rattle.lat_shared.specs.PrivatePasses.{Has, Covers, IsJoined, sharing_in}
use Rattle.lat_shared.proofs.shared.Shared.join_all.Given as goal

abbrev pub invariant-loop-pass : goal.invariant-loop-pass
invariant-loop-pass l = (l.yielded ++ into_iter_items l.pass-iterator ≡ into_iter_items l.initial.pass-iterator)
    × (into_iter_len l.pass-iterator ≡ length (into_iter_items l.pass-iterator))
    × All (IsPassOf l.self) (into_iter_items l.pass-iterator)
    × (sharing_in (known l.kept) ≡ l.self)
    × IsJoined (known l.kept)
    × Covers (known l.kept) (known l.initial.kept)
    × All (Has (known l.kept)) l.yielded
