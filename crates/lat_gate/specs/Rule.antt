-- The rule of a gate, which holds between any two steps on its table of one word and one slot.
--     Terms       what the rule takes from the machine's type and from the opening of the gate
--     Own         the numbers of a pass, each with the pass's own entries of it
--     Stands      the word, the slot and the holder, with the machine at home and with it out
--     Fits        what is true of one number of a view
--     Kept        the rule
use Rattle.std.specs.Prelude.{◌≡◌, ◌⊎◌, ℕ, zero, suc, ◌+◌, ◌*◌, ◌≤◌, ◌==◌, List, [], ◌∷◌, length, Option, Some, slice_index, Contains}
use Rattle.std.specs.List.{sum_by, count_by}
use mathlib.Core.Option.{some}
use lib.ListN.{get_elem?}
use Rattle.atomic_table.specs.Table.{State}
use Rattle.lat_gate.specs.History.{of_number, BeginsWith}
use Rattle.lat_gate.specs.declared.view.Hand.TheVariants.{Idle, Holds}
use Rattle.lat_gate.specs.declared.view.View.{View}

-- what the rule takes from the type of the machines and from the opening of the gate
pub record Terms (M E : Type 0) : Type 0 where
  -- a machine's history, an entry's number and a machine's setting
  pub entries : M → List E
  pub number : E → ℕ
  pub setting_of : M → List ℕ
  -- the setting, the history and the number of passes that the gate was opened with
  pub setting : List ℕ
  pub opening : List E
  pub passes : ℕ

-- numbers, each with a list of entries
abbrev pub Own : Type 0 → Type 0
Own E = List (ℕ × List E)

-- the machine is at home, or the seat of this place holds the turn
pub data Phase : Type 0 where
  free : Phase
  held : ℕ → Phase

-- the number is one that was dealt
abbrev pub IsDealt : ℕ → ℕ → Type 0
IsDealt passes n = (1 ≤ n) × (n ≤ passes)

-- as many numbers as said, from the first on, each with no entries
abbrev pub numbered : {E : Type 0} → ℕ → ℕ → Own E
numbered first zero = []
numbered first (suc count) = (first, []) ∷ numbered (suc first) count

module _ {E : Type 0} where
  -- the number stands here, with some list
  abbrev pub Has : Own E → ℕ → Type 0
  Has own n = (mine : List E) × Contains own (n, mine)

  -- some number does
  abbrev pub HasNumber : Own E → Type 0
  HasNumber own = (n : ℕ) × Has own n

  -- how many times the number n stands here
  abbrev pub times : ℕ → Own E → ℕ
  times n own = count_by (λ (o : ℕ × List E). o.0 == n) own

  -- how many times it stands in the views
  abbrev pub holders : ℕ → List (View E) → ℕ
  holders n views = sum_by (λ (v : View E). times n v.own) views

  -- the seat of the place i has this view
  abbrev pub Sits : List (View E) → ℕ → View E → Type 0
  Sits views i v = get_elem? views i ≡ some v

module _ {M E : Type 0} (gate : Terms M E) where
  -- the word is twice the number of entries, and one more while a seat holds the turn
  abbrev pub Stands : List E → Phase → State (Option M) (View E) → Type 0
  Stands now free s = (slice_index s.words 0 ≡ 2 * length now)
      × ((x : M) × (get_elem? s.homes 0 ≡ some (some (Some x)))
      × (gate.entries x ≡ now) × (gate.setting_of x ≡ gate.setting))
  Stands now (held i) s = (slice_index s.words 0 ≡ 2 * length now + 1)
      × ((v : View E) × Sits s.views i v × (v.hand ≡ Holds now) × HasNumber v.own)

  -- the view was dealt the number n, and its own entries of it are those of the current list
  pub record Fits (now : List E) (v : View E) (n : ℕ) (mine : List E) : Type 0 where
    pub setting_is : v.setting ≡ gate.setting
    pub opening_is : v.opening ≡ gate.opening
    pub passes_are : v.passes ≡ gate.passes
    pub dealt : IsDealt gate.passes n
    pub own : of_number gate.number n now ≡ mine

  -- the rule
  pub record Kept (s : State (Option M) (View E)) : Type 0 where
    -- the current list
    pub now : List E
    pub phase : Phase
    pub wide : length s.words ≡ 1
    pub stands : Stands now phase s
    -- no seat but the holder has a turn
    pub hands : (i : ℕ) (v : View E) → Sits s.views i v → (v.hand ≡ Idle) ⊎ (phase ≡ held i)
    -- what a view was told is a beginning of the current list
    pub told : (i : ℕ) (v : View E) → Sits s.views i v
        → BeginsWith now v.told × BeginsWith now v.noted
    pub each : (i : ℕ) (v : View E) (n : ℕ) (mine : List E) → Sits s.views i v
        → Contains v.own (n, mine) → Fits now v n mine
    -- no number is in two views
    pub once : (n : ℕ) → holders n s.views ≤ 1
    -- of a number that was not dealt the entries are those at the opening
    pub others : (n : ℕ) → ¬ IsDealt gate.passes n
        → of_number gate.number n now ≡ of_number gate.number n gate.opening
