use Rattle.lat_fill.proofs.ExitTables.{exits_none, exits_past, leads_iff}
use Rattle.lat_fill.proofs.exits.exits_to.Goals as goal
use Rattle.lat_fill.proofs.exits.exits_to.Goals.{then-is_stored, else-is_stored}

pub loop-b-init : goal.loop-b-init
loop-b-init c = exits_none

pub add_exit-requires-clause-leads : goal.add_exit-requires-clause-leads
add_exit-requires-clause-leads c = (leads_iff c.args.members.now c.loop-b.b c.index-members-b.result c.loop-b-test.true c.is_stored.ensures).0 c.if-is_stored.true

pub loop-b-preserved : goal.loop-b-preserved
loop-b-preserved c = elim c.if-is_stored.branch [
  | then-is_stored w ↦ rw w.exits-is (w.add_exit.ensures)
  | else-is_stored w ↦ rw w.exits-is (exits_past c.loop-b.invariant
      (λ s. let t = (leads_iff c.args.members.now c.loop-b.b c.index-members-b.result c.loop-b-test.true c.is_stored.ensures).1 s in
      let f = w.if-is_stored.false in cc))
]
