-- What the lines hold is judged, or the first bad line is refused.
use Rattle.std.proofs.Common.{rules}
use Rattle.lat_audit.specs.Readings.{Content}
use Rattle.lat_audit.specs.PrivateVerdicts.{TextFault}
use Rattle.lat_audit.specs.PrivateVerdicts.TextFault.{bad_line}
use Rattle.lat_audit.proofs.ReadContents.{read_content}
use Rattle.lat_audit.proofs.TextLattices.{text_judged}
use Rattle.lat_audit.proofs.verdicts.judge_text.Goals as goal

pub returns-in_err-content-clause-verdict : goal.returns-in_err-content-clause-verdict
returns-in_err-content-clause-verdict c =
    let fault : TextFault c.args.text.now c.in_err-content.field-0.0 = bad_line c.in_err-content.ensures.reading in
    search rules

pub lattice_of-requires : goal.lattice_of-requires
lattice_of-requires c =
    let held : Content =
    record { rows = c.in_ok-content.content.rows.items; images = c.in_ok-content.content.images.items } in
    (read_content c.args.text.now held c.in_ok-content.ensures.reading).0

pub returns-clause-verdict : goal.returns-clause-verdict
returns-clause-verdict c =
    let held : Content =
    record { rows = c.in_ok-content.content.rows.items; images = c.in_ok-content.content.images.items } in
    text_judged c.args.text.now held c.in_ok-content.ensures.reading c.lattice_of.result c.lattice_of.ensures
