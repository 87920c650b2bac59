-- The maps that a declaration adds. No public clause cites this module.
--     identity_row n K          the identity of field n, which is K
--     prime_map_row q P n K     the map of field q, a prime field P, into field n, which is K
--     AreMapsOf L n K maps      the identity of field n, which is K, and the map of its prime field
use Rattle.std.specs.Prelude.{◌≡◌, ℕ, ◌<◌, List, [], ◌∷◌, length}
use Rattle.alg_model.specs.Maps.{Field, identity_map}
use Rattle.alg_model.specs.Lattices.{Lattice, field_at}
use Rattle.alg_model.specs.Declaring.{prime_map}
use Rattle.lat_core.specs.declared.rows.MapRow.{MapRow}

abbrev pub identity_row : ℕ → Field → MapRow
identity_row n K = record {
  from = n;
  into = n;
  map = record { source = K; target = K; images = identity_map K };
}

abbrev pub prime_map_row : ℕ → Field → ℕ → Field → MapRow
prime_map_row q P n K = record {
  from = q;
  into = n;
  map = record { source = P; target = K; images = prime_map K };
}

-- both, for the prime field of K's characteristic
pub record AreMapsOf (L : Lattice) (n : ℕ) (K : Field) (maps : List MapRow) : Type 0 where
  pub prime : ℕ
  pub is_prime : prime < length L.edition.primes
  pub same_characteristic : (field_at L.rows prime).characteristic ≡ K.characteristic
  pub maps_are : maps
      ≡ identity_row n K ∷ prime_map_row prime (field_at L.rows prime) n K ∷ []
