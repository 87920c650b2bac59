use Rattle.std.proofs.Common.{◌≡◌, ℕ, ◌+◌, ◌-◌, ◌<◌, [], slice_get, IfSome, vec_len, vec_capacity}
use Rattle.lat_gate.specs.Rule.{numbered}
use Rattle.lat_gate.specs.Steps.{fresh}
use Rattle.lat_gate.specs.Seats.{dealt}
use Rattle.lat_gate.specs.Passes.{known}
use Rattle.lat_gate.proofs.gate.Gate.deal.Given as goal

abbrev pub invariant-loop : goal.invariant-loop
invariant-loop g l = let first = l.initial.first in let v = first.me.0 in
    (l.first.table_id ≡ first.table_id)
    × (l.first.me ≡ (fresh v.setting v.opening l.passes (numbered (l.counter + 1) (l.passes - l.counter)), []))
    × (vec_len l.dealt ≡ l.counter)
    × (vec_capacity l.dealt ≡ l.passes)
    × ((i : ℕ) → i < l.counter → IfSome (slice_get l.dealt.items i) (λ pass. known pass ≡ dealt first.table_id v.setting v.opening l.passes (i + 1)))
