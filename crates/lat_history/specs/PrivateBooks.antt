-- What a `Book` keeps. No public clause cites this module.
--     IsKept h L     L is the lattice after the entries, for which there is room
use Rattle.std.specs.Prelude.{◌≤◌, length}
use Rattle.alg_model.specs.Lattices.{Lattice, IsEdition}
use Rattle.lat_core.specs.Histories.{IsAfter}
use Rattle.lat_history.specs.declared.TheConstants.{MAX_ROOM}
use Rattle.lat_history.specs.Books.{History}

-- L is the lattice after the entries, and there is room for them
pub record IsKept (h : History) (L : Lattice) : Type 0 where
  pub of_edition : IsEdition h.edition
  pub after : IsAfter h.edition h.entries L
  pub within : length h.entries ≤ h.room
  pub room : h.room ≤ MAX_ROOM
