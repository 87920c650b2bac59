-- How a gate sees a book. No public clause cites this module.
--     setting_of h            room and edition of a history, as numbers
--     edition_in, room_in     and back
--     history_of setting entries     the history with this setting and these entries
--     IsLegalUnder setting entries   it is a history
use Rattle.std.specs.Prelude.{ℕ, List, [], ◌∷◌}
use Rattle.alg_model.specs.Lattices as lattices
use Rattle.lat_core.specs.declared.replies.Entry.{Entry}
use Rattle.lat_history.specs.Books.{History, IsHistory}

abbrev pub setting_of : History → List ℕ
setting_of h = h.room ∷ h.edition.top ∷ h.edition.room ∷ h.edition.primes

abbrev pub edition_in : List ℕ → lattices.Edition
edition_in (room ∷ top ∷ fields ∷ primes) = record { primes = primes; top = top; room = fields }
edition_in _ = record { primes = []; top = 0; room = 0 }

abbrev pub room_in : List ℕ → ℕ
room_in (room ∷ numbers) = room
room_in [] = 0

abbrev pub history_of : List ℕ → List Entry → History
history_of setting entries =
    record { edition = edition_in setting; room = room_in setting; entries = entries }

abbrev pub IsLegalUnder : List ℕ → List Entry → Type 0
IsLegalUnder setting entries = IsHistory (history_of setting entries)
