-- One more name, after a space.
use Rattle.std.proofs.Common.{◌∷◌, ◌++◌, map, ap, ◌∙◌}
use Rattle.std.specs.Prelude.{codes}
use Rattle.std.proofs.lemmas.List.{take_all}
use Rattle.std.proofs.lemmas.Result.{IfOk-equal}
use Rattle.lat_language.specs.CanonicalText.{name_at}
use Rattle.lat_language.proofs.AppendedTexts.{behind_more, twice_more, line_ended}
use Rattle.lat_language.proofs.printing.add_schedule_line.Goals as goal

pub loop-place-preserved : goal.loop-place-preserved
loop-place-preserved c =
    let more = behind_more (codes "schedule") (name_at c.args.sessions.now) c.args.places.now c.loop-place.place-index 0 c.loop-place-test.true in
    rw more (twice_more c.args.out.now.items _ _ _ _ _ _ c.loop-place.invariant c.in_ok-put_text-2.ensures.ok
    (c.in_ok-put_text-3.ensures.ok ∙ ap (λ name. c.put_text-in-loop-place.new.out.items ++ name) c.name_at_place.ensures))

pub returns : goal.returns
returns c = IfOk-equal c.put_text-2.result _ _ _ c.put_text-2.ensures.ok (line_ended c.args.out.now.items c.loop-place.out.items _ (codes "schedule" ∷ map (name_at c.args.sessions.now) c.args.places.now) (ap (λ places. codes "schedule" ∷ map (name_at c.args.sessions.now) places) (take_all c.loop-place.place-index c.args.places.now c.loop-place-test.false)) c.loop-place.invariant)
