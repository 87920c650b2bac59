-- What a pass knows, and what its seat is between two calls and while a turn lasts.
--     Known                    what a pass knows, as its callers see it
--     known_of id v            the same, from the seat's table and view
--     IsIdle, IsHeld           the seat of a pass, and of a turn
--     dealt                    what a pass knows at the opening
--     published, informed      after a turn with one entry more, and with none
--     joined                   after another pass was joined to it
--     AddsOne, HasEvery        what `publish` and `close` require
use Rattle.std.specs.Prelude.{◌≡◌, ℕ, zero, ◌<◌, Bool, true, false, IsTrue, List, [], ◌∷◌, ◌++◌, map, Option, None, length}
use Rattle.atomic_table.specs.Table.{Me}
use Rattle.atomic_table.specs.Seated.{TableId}
use Rattle.lat_gate.specs.History.{longer}
use Rattle.lat_gate.specs.Rule.{Own, Has, IsDealt}
use Rattle.lat_gate.specs.declared.view.Hand.{Hand}
use Rattle.lat_gate.specs.declared.view.Hand.TheVariants.{Idle, Holds}
use Rattle.lat_gate.specs.declared.view.View.{View}

-- what a pass knows
pub record Known (E : Type 0) : Type 0 where
  -- which gate it is of
  pub gate : TableId
  -- the setting, the history and the number of passes that the gate was opened with
  pub setting : List ℕ
  pub opening : List E
  pub passes : ℕ
  -- the numbers of the pass, each with the pass's own entries of it
  pub own : Own E
  -- the history that the pass has seen
  pub seen : List E

-- the hand holds no turn
abbrev pub is_idle : {E : Type 0} → Hand E → Bool
is_idle Idle = true
is_idle (Holds log) = false

-- the first slot is out, and it is empty
abbrev pub is_empty_slot : {M : Type 0} → ℕ × Option M → Bool
is_empty_slot (zero, None) = true
is_empty_slot _ = false

-- and no other is out
abbrev pub has_empty_slot : {M : Type 0} → List (ℕ × Option M) → Bool
has_empty_slot [] = false
has_empty_slot (slot ∷ []) = is_empty_slot slot
has_empty_slot (slot ∷ next ∷ slots) = false

-- the seat holds no turn and has no slot, and it has a number
abbrev pub IsIdle : {M E : Type 0} → Me (Option M) (View E) → Type 0
IsIdle m = (length m.1 ≡ 0) × IsTrue (is_idle m.0.hand) × (0 < length m.0.own)

-- the seat holds the turn and has the empty slot, and it has one number
abbrev pub IsHeld : {M E : Type 0} → Me (Option M) (View E) → Type 0
IsHeld m = IsTrue (has_empty_slot m.1) × (is_idle m.0.hand ≡ false) × (length m.0.own ≡ 1)

module _ {E : Type 0} where
  -- what a pass knows, from its table and its view
  abbrev pub known_of : TableId → View E → Known E
  known_of id v = record {
    gate = id;
    setting = v.setting;
    opening = v.opening;
    passes = v.passes;
    own = v.own;
    seen = v.told;
  }

  -- what a pass knows that is dealt the number n
  abbrev pub dealt : TableId → List ℕ → List E → ℕ → ℕ → Known E
  dealt id setting opening passes n = record {
    gate = id;
    setting = setting;
    opening = opening;
    passes = passes;
    own = (n, []) ∷ [];
    seen = opening;
  }

  -- the history is the old one and one more entry, of a number that the pass has
  abbrev pub AddsOne : (E → ℕ) → Own E → List E → List E → Type 0
  AddsOne number own old new = (e : E) × (new ≡ old ++ e ∷ []) × Has own (number e)

  -- the pass has seen this history, and has the new entry among its own
  abbrev pub published : Known E → List E → E → Known E
  published k log e = record k {
    own = map (λ (o : ℕ × List E). (o.0, o.1 ++ e ∷ [])) k.own;
    seen = log;
  }

  -- the pass has seen this history
  abbrev pub informed : Known E → List E → Known E
  informed k log = record k { seen = log }

  -- the pass has the numbers of both with their lists, and has seen the longer of their histories
  abbrev pub joined : Known E → Known E → Known E
  joined a b = record a { own = a.own ++ b.own; seen = longer a.seen b.seen }

  -- the pass has every number that was dealt
  abbrev pub HasEvery : Known E → Type 0
  HasEvery k = (n : ℕ) → IsDealt k.passes n → Has k.own n
