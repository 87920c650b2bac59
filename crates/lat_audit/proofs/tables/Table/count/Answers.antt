-- What is stored is a map of the list.
use Rattle.std.proofs.Common.{ℕ, ◌<◌, List, length, subst}
use Rattle.alg_model.specs.Lattices.{Lattice, Stored}
use Rattle.lat_audit.proofs.PairPlaces.{table_within}
use Rattle.lat_audit.proofs.tables.Table.count.Goals as goal

pub returns-clause-within : goal.returns-clause-within
returns-clause-within c = subst (λ (L : Lattice). (i j : ℕ) (m : List (List ℕ)) → Stored L i j m → (i < length L.rows) × (j < length L.rows)) c.self.view_is
    (table_within c.self.inside.fields.items c.self.inside.maps.items c.self.invariant.within)
