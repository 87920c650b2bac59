use Rattle.std.proofs.Common.{ap, arith}
use Rattle.lat_fill.proofs.WayLists.{outlets_none, outlets_more, outlets_past}
use Rattle.lat_fill.proofs.outlets.add_outlets.Goals as goal
use Rattle.lat_fill.proofs.outlets.add_outlets.Goals.{then-not-has_place+in_ok-add_outlets_to, else-not-has_place}

pub loop-k-init : goal.loop-k-init
loop-k-init c = outlets_none c.requires.ways

pub loop-k-preserved : goal.loop-k-preserved
loop-k-preserved c = elim c.if-not-has_place.branch [
  | then-not-has_place+in_ok-add_outlets_to w ↦
      outlets_more c.loop-k.invariant w.add_outlets_to.new.maps.items c.if-not-has_place.maps.items
      w.in_ok-add_outlets_to.ensures.ways w.in_ok-add_outlets_to.ensures.kept w.in_ok-add_outlets_to.ensures.linked
      (ap (λ v. v.items) w.maps-is)
  | else-not-has_place w ↦
      outlets_past c.loop-k.invariant c.if-not-has_place.maps.items (c.has_place.ensures.0 w.if-not-has_place.false)
      (ap (λ v. v.items) w.maps-is)
]

pub returns-clause-linked : goal.returns-clause-linked
returns-clause-linked c = λ a k la h. c.loop-k.invariant.linked a k la (omega (arith, h, c.loop-k-test.false, c.fields-k-end.ensures.value))
