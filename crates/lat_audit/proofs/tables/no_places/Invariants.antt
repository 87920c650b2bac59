use Rattle.std.proofs.Common.{◌≡◌, None, length}
use Rattle.std.specs.Prelude.{All}
use Rattle.lat_audit.proofs.tables.no_places.Given as goal

-- as many as so far, none of which is a place
abbrev pub invariant-places : goal.invariant-places
invariant-places l = record {
  count : length l.places.items ≡ l._k;
  none : All (λ place. place ≡ None) l.places.items;
}
