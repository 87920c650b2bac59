-- The parts are the dump.
use Rattle.std.proofs.Common.{◌++◌, ap, ◌∙◌}
use Rattle.lat_audit.specs.Dumps.{edition_number, header_line}
use Rattle.lat_audit.proofs.DumpedLines.{dump_made}
use Rattle.lat_audit.proofs.dumps.write_dump.Goals as goal

pub returns : goal.returns
returns c = dump_made c.args.lattice.now _ _ _ _ _ _ _ _ _ (c.number_of.ensures ∙ ap edition_number c.edition.ensures.value) c.fields.ensures.value c.maps.ensures
    (c.in_ok-add_header.ensures ∙ ap (λ t. t ++ header_line c.number_of.result) c.new-out.ensures.items)
    c.in_ok-add_field_count.ensures c.in_ok-add_fields.ensures c.in_ok-add_map_count.ensures c.in_ok-add_maps.ensures c.in_ok-add_line.ensures
