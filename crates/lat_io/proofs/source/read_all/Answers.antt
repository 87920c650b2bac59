use Rattle.std.proofs.Common.{rules, refl, ◌≡◌, ◌+◌, length, subst}
use Rattle.lat_io.specs.Source.{TakesFront}
use Rattle.lat_io.proofs.Taken.{TakesFront-more, no_memory_took}
use Rattle.lat_io.proofs.source.read_all.Goals as goal

pub returns-then-count-room-clause-fault : goal.returns-then-count-room-clause-fault
returns-then-count-room-clause-fault g c =
    let all : length c.pieces.bytes.items + c.in_ok-count.count ≡ c.args.limit + 1 = search rules in
    (refl, subst (TakesFront _ _) all (TakesFront-more _ _ _ _ _ _ c.pieces.invariant.taken c.in_ok-count.ensures.taken c.in_ok-count.ensures.within))

pub returns-in_err-extend_from_slice-clause-fault : goal.returns-in_err-extend_from_slice-clause-fault
returns-in_err-extend_from_slice-clause-fault g c =
    no_memory_took c.from_residual-in_err-extend_from_slice.result c.args.limit _ _ c.from_residual-in_err-extend_from_slice.ensures.1
    (length c.pieces.bytes.items + c.in_ok-count.count, search rules, search rules, TakesFront-more _ _ _ _ _ _ c.pieces.invariant.taken c.in_ok-count.ensures.taken c.in_ok-count.ensures.within)
