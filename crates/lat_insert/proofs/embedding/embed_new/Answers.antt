-- Too little room, no candidate, and the choice.
use Rattle.std.proofs.Common.{subst, refl, List, ℕ}
use Rattle.alg_model.specs.Candidates.{IsCandidate, IsChoice}
use Rattle.lat_core.specs.Step.{prescribed_values}
use Rattle.lat_insert.proofs.Declarations.{has_room, on_err}
use Rattle.lat_insert.proofs.Replies.{full_reply, none_reply, choice_adds, choice_reply, room_for}
use Rattle.lat_insert.proofs.embedding.embed_new.Goals as goal

pub returns-then-lacks_room-clause-embedded : goal.returns-then-lacks_room-clause-embedded
returns-then-lacks_room-clause-embedded c = full_reply c.fields-have.ensures.whole c.requires.fields c.requires.fit c.missing_count-need.ensures
    c.fields-have.ensures.value (c.lacks_room.ensures.0 c.if-lacks_room.true)

pub returns-in_default-clause-embedded : goal.returns-in_default-clause-embedded
returns-in_default-clause-embedded c = none_reply c.fields-have.ensures.whole c.requires.fields c.requires.fit c.missing_count-need.ensures
    (has_room c.lacks_room.result c.lacks_room.ensures c.if-lacks_room.false)
    (subst (λ s. (v : List ℕ) → ¬ IsCandidate c.args.lattice.now c.args.from c.args.into (prescribed_values s) v) c.as_ref.ensures.value
    (c.in_default.ensures.none.0 refl))

pub filled_by-requires-clause-room : goal.filled_by-requires-clause-room
filled_by-requires-clause-room c =
    room_for c.missing_count-need.ensures (has_room c.lacks_room.result c.lacks_room.ensures c.if-lacks_room.false)

pub returns-in_err-filled-clause-memory : goal.returns-in_err-filled-clause-memory
returns-in_err-filled-clause-memory c = on_err c.from_residual.result
    (choice_adds c.fields-have.ensures.whole c.requires.fields c.requires.fit c.missing_count-need.ensures
    (has_room c.lacks_room.result c.lacks_room.ensures c.if-lacks_room.false) c.requires.new
    (subst (λ s. IsChoice c.args.lattice.now c.args.from c.args.into (prescribed_values s) c.in-Some.image) c.as_ref.ensures.value
    c.in-Some.ensures.choice))

pub returns-clause-embedded : goal.returns-clause-embedded
returns-clause-embedded c = choice_reply c.fields-have.ensures.whole c.requires.fields c.requires.fit c.missing_count-need.ensures
    (has_room c.lacks_room.result c.lacks_room.ensures c.if-lacks_room.false)
    (subst (λ s. IsChoice c.args.lattice.now c.args.from c.args.into (prescribed_values s) c.in-Some.image) c.as_ref.ensures.value
    c.in-Some.ensures.choice) c.in_ok-filled.ensures
