-- What a turn at the gate leaves. No public clause cites this module.
--     Found k n h             the history at the turn: others' entries are new
--     IsTurnPlayed k n request k' played     a change was entered and published
--     IsTurnLost k n k' fault     no change was entered
use Rattle.std.specs.Prelude.{◌≡◌, ℕ, List, [], ◌∷◌, ◌++◌}
use Rattle.lat_core.specs.declared.requests.Request.{Request}
use Rattle.lat_core.specs.declared.replies.Entry.{Entry}
use Rattle.lat_core.specs.declared.replies.ChangeFault.{ChangeFault}
use Rattle.lat_core.specs.Histories.{entries_of}
use Rattle.lat_history.specs.Books.{History, IsHistory}
use Rattle.lat_history.specs.declared.played.Played.{Played}
use Rattle.lat_history.specs.Plays.{IsPlayed, IsBookFault}
use Rattle.lat_gate.specs.Seats.{Known, published, informed}
use Rattle.lat_shared.specs.PrivateSettings.{setting_of}

-- it has the setting of the pass, and begins with what the pass has seen
pub record Found (k : Known Entry) (n : ℕ) (h : History) : Type 0 where
  pub is_history : IsHistory h
  pub setting : setting_of h ≡ k.setting
  pub others : List Entry
  pub told : h.entries ≡ k.seen ++ others
  pub none_own : entries_of n others ≡ []

pub record IsTurnPlayed (k : Known Entry) (n : ℕ) (request : Request) (k' : Known Entry)
    (played : Played) : Type 0 where
  pub before : History
  pub after : History
  pub found : Found k n before
  pub is_history : IsHistory after
  pub is_played : IsPlayed before after n request played
  pub pass : k' ≡ published k after.entries
      (record { session = n; request = request; reply = played.placed.reply })

pub record IsTurnLost (k : Known Entry) (n : ℕ) (k' : Known Entry) (fault : ChangeFault)
    : Type 0 where
  pub before : History
  pub found : Found k n before
  pub refused : IsBookFault before fault
  pub pass : k' ≡ informed k before.entries
