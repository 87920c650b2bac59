use Rattle.std.proofs.Common.{◌≡◌, ◌*◌, length, take}
use Rattle.lat_core.specs.declared.TheConstants.{MAX_FIELDS}
use Rattle.lat_audit.specs.PrivateTables.{ArePlaces}
use Rattle.lat_audit.proofs.tables.places_of.Given as goal

-- the places of the maps so far
abbrev pub invariant-loop-place : goal.invariant-loop-place
invariant-loop-place l = record {
  count : length l.places.items ≡ MAX_FIELDS * MAX_FIELDS;
  placed : ArePlaces (take l.place l.maps) l.places.items;
}
