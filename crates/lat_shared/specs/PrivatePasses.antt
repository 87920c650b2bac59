-- What a `SessionPass` shows and keeps. No public clause cites this module.
--     known_in pass           what the gate's pass knows
--     sharing_in k            which shared history it is of
--     shared_pass k n front   what contracts see of a pass
--     passes_from n front passes     the same of passes that are numbered from n on
--     Keeps k n front L       the gate's pass has the session's number alone, and L is the
--                             lattice after as many entries as the front says
--     IsKept pass n front view     the gate's pass is there, and so it is
--     KeepFrom n front view passes     so are passes that are numbered from n on
--     Has k pass              a gate's pass has what the pass of a session has
--     Covers k' k             a gate's pass has what another one has
--     IsJoined k              and of other numbers it has none
use Rattle.std.specs.Prelude.{◌≡◌, ℕ, suc, ◌≤◌, List, [], ◌∷◌, length, take, Option, Some, None, IsSome, Contains}
use Rattle.alg_model.specs.Lattices.{Lattice}
use Rattle.lat_core.specs.declared.replies.Entry.{Entry}
use Rattle.lat_core.specs.Histories.{IsAfter, entries_of}
use Rattle.lat_gate.specs.History.{BeginsWith}
use Rattle.lat_gate.specs.Rule.{Has as HasOwn}
use Rattle.lat_gate.specs.Seats.{Known}
use Rattle.lat_gate.specs.Passes.{known}
use Rattle.lat_gate.specs.declared.machine.Machine.{Ghosts}
use Rattle.lat_gate.specs.declared.pass.Pass.{Pass}
use Rattle.lat_shared.specs.Sharing.{Sharing, SharedPass, IsSession}
use Rattle.lat_shared.specs.PrivateSettings.{edition_in, room_in, IsLegalUnder}

-- what no pass knows
abbrev no_pass : Known Entry
no_pass = record {
  gate = record {
    words = 0;
    slots = 0;
    views_name = 0;
    atom = 0;
    block = 0;
    offset = 0;
    slot_names = [];
  };
  setting = [];
  opening = [];
  passes = 0;
  own = [];
  seen = [];
}

module _ {M : Type 0} {g : Ghosts M Entry} where
  abbrev pub known_in : Option (Pass M Entry g) → Known Entry
  known_in (Some pass) = known pass
  known_in None = no_pass

-- the gate's setting has edition and room
abbrev pub sharing_in : Known Entry → Sharing
sharing_in k = record {
  edition = edition_in k.setting;
  room = room_in k.setting;
  sessions = k.passes;
  opened = length k.opening;
  gate = k.gate;
}

-- what the gate's pass has seen was told to the session
abbrev pub shared_pass : Known Entry → ℕ → ℕ → SharedPass
shared_pass k n front =
    record { sharing = sharing_in k; number = n; seen = take front k.seen; told = k.seen }

pub record Keeps (k : Known Entry) (n front : ℕ) (L : Lattice) : Type 0 where
  -- its own entries are those that it was told
  pub own : k.own ≡ (n, entries_of n k.seen) ∷ []
  pub legal : IsLegalUnder k.setting k.seen
  pub session : IsSession k.passes n
  pub begins : BeginsWith k.seen k.opening
  pub within : front ≤ length k.seen
  pub view : IsAfter (edition_in k.setting) (take front k.seen) L

module _ {M : Type 0} {g : Ghosts M Entry} where
  pub record IsKept (pass : Option (Pass M Entry g)) (n front : ℕ) (view : Lattice)
      : Type 0 where
    pub present : IsSome pass
    pub keeps : Keeps (known_in pass) n front view

  -- each of the passes does
  abbrev pub KeepFrom : ℕ → ℕ → Lattice → List (Pass M Entry g) → Type 0
  KeepFrom n front view [] = Unit {0}
  KeepFrom n front view (pass ∷ passes) =
      Keeps (known pass) n front view × KeepFrom (suc n) front view passes

  abbrev pub passes_from : ℕ → ℕ → List (Pass M Entry g) → List SharedPass
  passes_from n front [] = []
  passes_from n front (pass ∷ passes) =
      shared_pass (known pass) n front ∷ passes_from (suc n) front passes

-- a gate's pass has what a session was told, and the session's number with its own entries
pub record Has (k : Known Entry) (pass : SharedPass) : Type 0 where
  pub own : Contains k.own (pass.number, entries_of pass.number pass.told)
  pub told : BeginsWith k.seen pass.told

-- a gate's pass has what another one has
pub record Covers (k' k : Known Entry) : Type 0 where
  pub own : (o : ℕ × List Entry) → Contains k.own o → Contains k'.own o
  pub seen : BeginsWith k'.seen k.seen

-- all numbers of a gate's pass are those of sessions, and it has seen the entries at the opening
pub record IsJoined (k : Known Entry) : Type 0 where
  pub sessions : (n : ℕ) → HasOwn k.own n → IsSession k.passes n
  pub begins : BeginsWith k.seen k.opening
