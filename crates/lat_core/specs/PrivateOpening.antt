-- The maps of an opening lattice, as a program lists them. No public clause cites this module.
--     identity_row n row         the identity of field n
--     identities_from n rows     the identities of fields whose numbers begin with n
use Rattle.std.specs.Prelude.{ℕ, suc, List, [], ◌∷◌}
use Rattle.alg_model.specs.Maps.{identity_map}
use Rattle.alg_model.specs.Lattices.{Row}
use Rattle.lat_core.specs.declared.rows.MapRow.{MapRow}

abbrev pub identity_row : ℕ → Row → MapRow
identity_row n row = record {
  from = n;
  into = n;
  map = record { source = row.field; target = row.field; images = identity_map row.field };
}

abbrev pub identities_from : ℕ → List Row → List MapRow
identities_from n [] = []
identities_from n (row ∷ rows) = identity_row n row ∷ identities_from (suc n) rows
