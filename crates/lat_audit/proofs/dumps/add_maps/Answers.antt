-- One more field from which a map may start, and all of them.
use Rattle.std.proofs.Common.{◌≡◌, ◌++◌, length, sym, ap, ◌∙◌, arith}
use Rattle.std.proofs.lemmas.List.{append-nil}
use Rattle.lat_audit.specs.Dumps.{stored_lines}
use Rattle.lat_audit.proofs.StoredMaps.{maps_below_none, maps_below_more, maps_below_all}
use Rattle.lat_audit.proofs.DumpedLines.{stored_more}
use Rattle.lat_audit.proofs.dumps.add_maps.Goals as goal

pub loop-i-init : goal.loop-i-init
loop-i-init c = sym (ap (λ es. c.args.out.now.items ++ stored_lines c.args.lattice.now.rows es) (maps_below_none c.args.lattice.now) ∙ append-nil c.args.out.now.items)

pub loop-i-preserved : goal.loop-i-preserved
loop-i-preserved c = stored_more c.args.lattice.now.rows c.args.out.now.items _ _ _ _ _
    (maps_below_more c.args.lattice.now c.loop-i.i) c.loop-i.invariant c.in_ok-add_maps_from.ensures

pub returns : goal.returns
returns c =
    let count = c.fields-i-end.ensures in
    let test = c.loop-i-test.false in
    let end = c.loop-i.auto.i-end in
    let last : c.loop-i.i ≡ length c.args.lattice.now.rows = omega (arith, count.value) in
    c.loop-i.invariant ∙ ap (λ es. c.args.out.now.items ++ stored_lines c.args.lattice.now.rows es) (maps_below_all c.args.lattice.now count.whole.compatible c.loop-i.i last)
