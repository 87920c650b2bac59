-- A history that sessions on threads of their own share, and what each has of it.
--     Sharing                 its edition and room, how many sessions and entries it was opened with,
--                             and which one it is
--     sharing_of gate h sessions     a history that is opened for so many sessions
--     marks sharing           the numbers by which it is known
--     IsSession sharing n     n is the number of one of its sessions
--     SharedPass              the session, what its view stands on, and what it was told
--     knowledge_of pass       the same as a session's knowledge
--     told_history pass       the history that the session was told
--     first_pass sharing n entries     the pass of a session that has made no call yet
--     IsPassOf sharing pass   the pass is one of this shared history
--     EndsAs pass h           the history, once it is closed, has of this session what its pass was
--                             told
use Rattle.std.specs.Prelude.{◌≡◌, ℕ, ◌≤◌, false, List, [], ◌∷◌, ◌++◌, length}
use Rattle.atomic_table.specs.Seated.{TableId}
use Rattle.alg_model.specs.Lattices as lattices
use Rattle.lat_core.specs.declared.replies.Entry.{Entry}
use Rattle.lat_core.specs.Histories.{Knowledge, entries_of}
use Rattle.lat_history.specs.Books.{History}

-- The edition and the room of the history; for how many sessions it was opened, and how many entries
-- it had then; and the gate that guards it, by which it is told apart from all others.
pub record Sharing : Type 0 where
  pub edition : lattices.Edition
  pub room : ℕ
  pub sessions : ℕ
  pub opened : ℕ
  pub gate : TableId

abbrev pub sharing_of : TableId → History → ℕ → Sharing
sharing_of gate h sessions = record {
  edition = h.edition;
  room = h.room;
  sessions = sessions;
  opened = length h.entries;
  gate = gate;
}

-- its numbers, and those of its gate
abbrev pub marks : Sharing → List ℕ
marks s = s.sessions ∷ s.opened ∷ s.gate.words ∷ s.gate.slots ∷ s.gate.views_name ∷ s.gate.atom
    ∷ s.gate.block ∷ s.gate.offset ∷ s.gate.slot_names

-- the sessions are numbered from 1 on
abbrev pub IsSession : ℕ → ℕ → Type 0
IsSession sessions n = (1 ≤ n) × (n ≤ sessions)

-- Which shared history it is of; the number of the session; the entries that its view stands on, and
-- those that it was told.
pub record SharedPass : Type 0 where
  pub sharing : Sharing
  pub number : ℕ
  pub seen : List Entry
  pub told : List Entry

-- other sessions change the history too
abbrev pub knowledge_of : SharedPass → Knowledge
knowledge_of pass = record {
  number = pass.number;
  edition = pass.sharing.edition;
  room = pass.sharing.room;
  alone = false;
  seen = pass.seen;
  told = pass.told;
}

abbrev pub told_history : SharedPass → History
told_history pass =
    record { edition = pass.sharing.edition; room = pass.sharing.room; entries = pass.told }

-- it was told all entries, and sees them
abbrev pub first_pass : Sharing → ℕ → List Entry → SharedPass
first_pass sharing n entries =
    record { sharing = sharing; number = n; seen = entries; told = entries }

abbrev pub IsPassOf : Sharing → SharedPass → Type 0
IsPassOf sharing pass = pass.sharing ≡ sharing

-- the history begins with what the pass was told, and has no other entry of the session
pub record EndsAs (pass : SharedPass) (h : History) : Type 0 where
  pub later : List Entry
  pub told_first : h.entries ≡ pass.told ++ later
  pub none_own : entries_of pass.number later ≡ []
