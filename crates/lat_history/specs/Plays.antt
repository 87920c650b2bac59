-- What a book does with a change.
--     IsPlayed old new session request played     it has entered the change
--     IsBookFault h fault                         why it has not
use Rattle.std.specs.Prelude.{◌≡◌, ℕ, ◌<◌, length}
use Rattle.alg_model.specs.Lattices.{Lattice}
use Rattle.lat_core.specs.declared.requests.Request.{Request}
use Rattle.lat_core.specs.declared.replies.ChangeFault.{ChangeFault}
use Rattle.lat_core.specs.declared.replies.ChangeFault.TheVariants.{HistoryFull, NoMemory}
use Rattle.lat_core.specs.Step.{Steps}
use Rattle.lat_core.specs.Histories.{IsAfter}
use Rattle.lat_history.specs.declared.played.Played.{Played}
use Rattle.lat_history.specs.Books.{History, with_entry}

-- The session's request and its reply are the last entry, at a place below the room; reply and view
-- are those of the step from the lattice before, and the view is the lattice after all entries.
pub record IsPlayed (old new : History) (session : ℕ) (request : Request) (played : Played)
    : Type 0 where
  pub entered : new ≡ with_entry old
      (record { session = session; request = request; reply = played.placed.reply })
  pub at_end : played.placed.place ≡ length old.entries
  pub below_room : played.placed.place < old.room
  pub step : (L : Lattice) → IsAfter old.edition old.entries L
      → Steps L request played.placed.reply played.view
  pub view : IsAfter new.edition new.entries played.view

-- HistoryFull of a full book alone, with its length; NoMemory only where there is room
abbrev pub IsBookFault : History → ChangeFault → Type 0
IsBookFault h (HistoryFull n) = (n ≡ h.room) × (length h.entries ≡ n)
IsBookFault h NoMemory = length h.entries < h.room
