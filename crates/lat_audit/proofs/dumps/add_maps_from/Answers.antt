-- One more field in which a map may end, and all of them.
use Rattle.std.proofs.Common.{◌≡◌, ◌++◌, length, sym, ap, ◌∙◌, arith}
use Rattle.std.proofs.lemmas.List.{append-nil}
use Rattle.lat_audit.specs.Dumps.{stored_lines}
use Rattle.lat_audit.proofs.StoredMaps.{maps_to_none, maps_to_more, maps_to_all}
use Rattle.lat_audit.proofs.DumpedLines.{stored_more}
use Rattle.lat_audit.proofs.dumps.add_maps_from.Goals as goal

pub loop-j-init : goal.loop-j-init
loop-j-init c = sym (ap (λ es. c.args.out.now.items ++ stored_lines c.args.lattice.now.rows es) (maps_to_none c.args.lattice.now c.args.i) ∙ append-nil c.args.out.now.items)

pub loop-j-preserved : goal.loop-j-preserved
loop-j-preserved c = stored_more c.args.lattice.now.rows c.args.out.now.items _ _ _ _ _
    (maps_to_more c.args.lattice.now c.args.i c.loop-j.j) c.loop-j.invariant c.in_ok-add_pair.ensures

pub returns : goal.returns
returns c =
    let count = c.fields-j-end.ensures in
    let test = c.loop-j-test.false in
    let end = c.loop-j.auto.j-end in
    let last : c.loop-j.j ≡ length c.args.lattice.now.rows = omega (arith, count.value) in
    c.loop-j.invariant ∙ ap (λ es. c.args.out.now.items ++ stored_lines c.args.lattice.now.rows es) (maps_to_all c.args.lattice.now count.whole.compatible c.args.i c.loop-j.j last)
