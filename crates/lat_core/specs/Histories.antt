-- Histories of changes, and what a session knows of one.
--     Leads L entries M        each request is answered as the lattice before it asks, from L to M
--     IsAfter edition entries M     M is the lattice after these entries
--     IsLegal edition entries  there is a lattice after them
--     entries_of n entries     those of session n
--     Knowledge                the session, what it stands on, and what it was told
--     IsKnowledge k            a session's knowledge
--     IsPlaced old new request reply place     a change of this session was entered
--     IsUnplaced old new       others' entries were told, and no change was entered
--     IsRefusedBy new fault    why not
use Rattle.std.specs.Prelude.{◌≡◌, ℕ, ◌+◌, ◌<◌, ◌==◌, Bool, true, List, [], ◌∷◌, ◌++◌, length, filter}
use Rattle.alg_model.specs.Lattices as lattices
use Rattle.alg_model.specs.Lattices.{Lattice}
use Rattle.alg_model.specs.Declaring.{IsOpening}
use Rattle.lat_core.specs.declared.requests.Request.{Request}
use Rattle.lat_core.specs.declared.replies.Reply.{Reply}
use Rattle.lat_core.specs.declared.replies.Entry.{Entry}
use Rattle.lat_core.specs.declared.replies.ChangeFault.{ChangeFault}
use Rattle.lat_core.specs.declared.replies.ChangeFault.TheVariants.{HistoryFull, NoMemory}
use Rattle.lat_core.specs.Step.{IsProperRequest, Steps}

-- the first entry leads from L to some lattice, and the others lead from there to M
abbrev pub Leads : Lattice → List Entry → Lattice → Type 0
Leads L [] M = M ≡ L
Leads L (entry ∷ entries) M = (N : Lattice) × IsProperRequest entry.request
    × Steps L entry.request entry.reply N × Leads N entries M

-- they lead to M from the opening lattice
pub record IsAfter (edition : lattices.Edition) (entries : List Entry) (M : Lattice)
    : Type 0 where
  pub opening : Lattice
  pub of_edition : opening.edition ≡ edition
  pub is_opening : IsOpening opening
  pub leads : Leads opening entries M

abbrev pub IsLegal : lattices.Edition → List Entry → Type 0
IsLegal edition entries = (M : Lattice) × IsAfter edition entries M

abbrev pub entries_of : ℕ → List Entry → List Entry
entries_of n entries = filter (λ entry. entry.session == n) entries

-- The number of the session; the edition and the room of the history; whether no other session
-- changes it; the entries that the session's view stands on, and those that it was told.
pub record Knowledge : Type 0 where
  pub number : ℕ
  pub edition : lattices.Edition
  pub room : ℕ
  pub alone : Bool
  pub seen : List Entry
  pub told : List Entry

-- what was seen comes first in what was told, and both are legal
pub record IsKnowledge (k : Knowledge) : Type 0 where
  pub later : List Entry
  pub seen_first : k.told ≡ k.seen ++ later
  pub legal : IsLegal k.edition k.told
  pub seen_legal : IsLegal k.edition k.seen

-- the session and its history are the same
pub record IsSameSession (old new : Knowledge) : Type 0 where
  pub number : new.number ≡ old.number
  pub edition : new.edition ≡ old.edition
  pub room : new.room ≡ old.room
  pub alone : new.alone ≡ old.alone

-- none of the entries is the session's own, and where it is alone there are none
pub record AreOthers (k : Knowledge) (others : List Entry) : Type 0 where
  pub none_own : entries_of k.number others ≡ []
  pub none_alone : k.alone ≡ true → others ≡ []

-- told are others' entries, and last the session's own, at a place below the room; all are seen
pub record IsPlaced (old new : Knowledge) (request : Request) (reply : Reply) (place : ℕ)
    : Type 0 where
  pub same : IsSameSession old new
  pub others : List Entry
  pub are_others : AreOthers old others
  pub told : new.told ≡ old.told ++ others
      ++ record { session = old.number; request = request; reply = reply } ∷ []
  pub seen : new.seen ≡ new.told
  pub at_end : place ≡ length old.told + length others
  pub below_room : place < old.room

-- told are others' entries, and what is seen is as before
pub record IsUnplaced (old new : Knowledge) : Type 0 where
  pub same : IsSameSession old new
  pub others : List Entry
  pub are_others : AreOthers old others
  pub told : new.told ≡ old.told ++ others
  pub seen : new.seen ≡ old.seen

-- a full history has as many entries as there is room for, and all were told
abbrev pub IsRefusedBy : Knowledge → ChangeFault → Type 0
IsRefusedBy new (HistoryFull n) = (n ≡ new.room) × (length new.told ≡ n)
IsRefusedBy new NoMemory = Unit {0}
