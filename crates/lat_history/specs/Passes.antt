-- What one session has seen of a history.
--     Pass                    the number of the session, how many entries it has seen, and its view
--     seen_of h pass          the entries that it has seen
--     IsPassOf h pass         it has seen the first entries of the history
--     known_of h pass         what the session knows that no other one runs beside
use Rattle.std.specs.Prelude.{◌≡◌, ℕ, ◌≤◌, true, List, length, take}
use Rattle.alg_model.specs.Lattices.{Lattice}
use Rattle.lat_core.specs.declared.replies.Entry.{Entry}
use Rattle.lat_core.specs.Histories.{IsAfter, Knowledge}
use Rattle.lat_history.specs.Books.{History}

-- the number of the session, how many entries it has seen, and the lattice that it sees
pub record Pass : Type 0 where
  pub number : ℕ
  pub front : ℕ
  pub view : Lattice

-- the first entries, as many as the pass has seen
abbrev pub seen_of : History → Pass → List Entry
seen_of h pass = take pass.front h.entries

-- the lattice after the entries that the pass has seen is its view
abbrev pub IsView : History → Pass → Type 0
IsView h pass = (L : Lattice) → IsAfter h.edition (seen_of h pass) L → L ≡ pass.view

-- the pass has seen no more entries than there are, and its view is the lattice after those
pub record IsPassOf (h : History) (pass : Pass) : Type 0 where
  pub within : pass.front ≤ length h.entries
  pub view : IsView h pass

-- all entries are told; while the port has the book, no other session changes it
abbrev pub known_of : History → Pass → Knowledge
known_of h pass = record {
  number = pass.number;
  edition = h.edition;
  room = h.room;
  alone = true;
  seen = seen_of h pass;
  told = h.entries;
}
