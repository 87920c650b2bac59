-- Histories as a book keeps them.
--     History                 the edition, the room for entries, and the entries
--     IsHistory h             legal entries of an edition, for which there is room
--     with_entry h entry      the history with one entry more
--     empty_history edition room     no entries
use Rattle.std.specs.Prelude.{ℕ, ◌≤◌, List, [], ◌∷◌, ◌++◌, length}
use Rattle.alg_model.specs.Lattices as lattices
use Rattle.alg_model.specs.Lattices.{IsEdition}
use Rattle.lat_core.specs.declared.replies.Entry.{Entry}
use Rattle.lat_core.specs.Histories.{IsLegal}
use Rattle.lat_history.specs.declared.TheConstants.{MAX_ROOM}

-- the edition of the lattice, the greatest number of entries, and the entries
pub record History : Type 0 where
  pub edition : lattices.Edition
  pub room : ℕ
  pub entries : List Entry

-- the entries are legal in the edition, and there is room for them
pub record IsHistory (h : History) : Type 0 where
  pub of_edition : IsEdition h.edition
  pub legal : IsLegal h.edition h.entries
  pub within : length h.entries ≤ h.room
  pub room : h.room ≤ MAX_ROOM

-- no entries, and this much room
abbrev pub empty_history : lattices.Edition → ℕ → History
empty_history edition room = record { edition = edition; room = room; entries = [] }

-- one entry more, at the end
abbrev pub with_entry : History → Entry → History
with_entry h entry =
    record { edition = h.edition; room = h.room; entries = h.entries ++ entry ∷ [] }
