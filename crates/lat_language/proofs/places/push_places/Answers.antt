-- A name that no session has, one more place, and no name left.
use Rattle.std.proofs.Common.{refl, inl}
use Rattle.lat_language.specs.Grammar.{words_of}
use Rattle.lat_language.proofs.SessionPlaces.{placed_more, not_placed, placed_all}
use Rattle.lat_language.proofs.places.push_places.Goals as goal

pub returns-in_default-session_place : goal.returns-in_default-session_place
returns-in_default-session_place c = inl (
  not_placed c.args.sessions.now (words_of c.args.names.now) (words_of c.loop-name.rest.now) c.args.schedule.now c.loop-name.schedule c.loop-name.invariant
      c.in-Some.name.now (words_of c.in-Some.after.now) c.in-Some.ensures.0 c.in_default-session_place.ensures,
  refl,
)

pub loop-name-preserved : goal.loop-name-preserved
loop-name-preserved c =
    placed_more c.args.sessions.now (words_of c.args.names.now) (words_of c.loop-name.rest.now) c.args.schedule.now c.loop-name.schedule c.loop-name.invariant
    c.in-Some.name.now (words_of c.in-Some.after.now) c.push.new.self c.in-Some-session_place.place c.in-Some.ensures.0
    c.in-Some-session_place.ensures.0 c.in-Some-session_place.ensures.1 c.in_ok-push.ensures.ok

pub returns : goal.returns
returns c =
    placed_all c.args.sessions.now (words_of c.args.names.now) (words_of c.loop-name.rest.now) c.args.schedule.now c.loop-name.schedule c.loop-name.invariant
    c.in_default.ensures
