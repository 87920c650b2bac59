use Rattle.std.proofs.Common.{◌∙◌, ap}
use Rattle.std.proofs.lemmas.Result.{IfOk-weaker}
use Rattle.lat_core.specs.PrivateOpening.{identities_from}
use Rattle.lat_core.proofs.Openings.{open_compatible, open_opening}
use Rattle.lat_core.proofs.lattices.Lattice.open.Goals as goal

pub of_rows-requires-clause-compatible : goal.of_rows-requires-clause-compatible
of_rows-requires-clause-compatible c = open_compatible c.args.edition c.in_ok-fields.fields.items c.in_ok-shared_maps.shared_maps.items
    c.in_ok-fields.ensures (c.in_ok-shared_maps.ensures ∙ c.as_slice-2.ensures.value ∙ c.in_ok-maps.ensures ∙ ap (identities_from 0) c.as_slice.ensures.value)

pub returns-clause-opening : goal.returns-clause-opening
returns-clause-opening c = IfOk-weaker c.of_rows.result _ _ (λ L made. open_opening c.args.edition c.in_ok-fields.fields.items c.in_ok-shared_maps.shared_maps.items L
    c.in_ok-fields.ensures (c.in_ok-shared_maps.ensures ∙ c.as_slice-2.ensures.value ∙ c.in_ok-maps.ensures ∙ ap (identities_from 0) c.as_slice.ensures.value) made) c.of_rows.ensures
