-- What each kind of step on the table of a gate does to the views, and tells.
--     first_view                  the view of the first seat, which has every number
--     others, first_alone         it gives its first number to a new seat
--     looked, tried, gave_back    a load, a compare-exchange and a swap of the word
--     both, spent                 two seats are joined
use Rattle.std.specs.Prelude.{◌≡◌, ◌≢◌, ℕ, ◌*◌, ◌≤◌, List, [], ◌∷◌, ◌++◌, map, take, drop, length, Option, Some, None, Contains}
use Rattle.atomic_table.specs.Table.{Me, Step, rest}
use Rattle.lat_gate.specs.History.{of_number, BeginsWith, longer, shorter}
use Rattle.lat_gate.specs.Rule.{Own, numbered}
use Rattle.lat_gate.specs.declared.view.Hand.{Hand}
use Rattle.lat_gate.specs.declared.view.Hand.TheVariants.{Idle, Holds}
use Rattle.lat_gate.specs.declared.view.View.{View}

module _ {E : Type 0} where
  -- an idle seat with these numbers that was told the history at the opening
  abbrev pub fresh : List ℕ → List E → ℕ → Own E → View E
  fresh setting opening passes own = record {
    setting = setting;
    opening = opening;
    passes = passes;
    own = own;
    told = opening;
    noted = opening;
    hand = Idle;
  }

  -- the view of the first seat, which has every number
  abbrev pub first_view : List ℕ → List E → ℕ → View E
  first_view setting opening passes = fresh setting opening passes (numbered 1 passes)

  -- all numbers but the first
  abbrev pub others : View E → View E
  others v = record v { own = drop 1 v.own }

  -- the first number alone
  abbrev pub first_alone : View E → View E
  first_alone v = record v { own = take 1 v.own }

  -- the seat holds the turn, with this history
  abbrev pub holding : View E → List E → View E
  holding v log = record v { hand = Holds log }

  -- the history that the machine was taken with
  abbrev pub held_log : Hand E → List E
  held_log Idle = []
  held_log (Holds log) = log

  -- the entries behind those that the machine was taken with
  abbrev pub newer : View E → List E → List E
  newer v log = drop (length (held_log v.hand)) log

  -- each list with the entries of its number behind it
  abbrev pub grown : (E → ℕ) → List E → Own E → Own E
  grown number more own = map (λ (o : ℕ × List E). (o.0, o.1 ++ of_number number o.0 more)) own

  -- the seat has given the machine back with this history
  abbrev pub settled : (E → ℕ) → View E → List E → View E
  settled number v log = record v {
    own = grown number (newer v log) v.own;
    told = log;
    hand = Idle;
  }

  -- the numbers of both, and the longer of what they were told
  abbrev pub both : View E → View E → View E
  both v w = record v {
    own = v.own ++ w.own;
    told = longer v.told w.told;
    noted = shorter v.told w.told;
  }

  -- nothing is left
  abbrev pub spent : View E
  spent = fresh [] [] 0 []

-- what is told of a step: of the step, the seat before, the word found and the seat after
abbrev Tells : Type 0 → Type 0 → Type 1
Tells M E = Step (Option M) → Me (Option M) (View E) → ℕ → Me (Option M) (View E) → Type 0

-- a load: the word is at least twice the length of what the view was told, and this list begins
-- with the noted one where that is no longer
abbrev pub looked : {M E : Type 0} → Tells M E
looked st m r m' = (m' ≡ m) × (2 * length m.0.told ≤ r)
    × (length m.0.noted ≤ length m.0.told → BeginsWith m.0.told m.0.noted)

-- the history of the machine in the slot that was taken last
abbrev pub carried_log : {M E : Type 0} → (M → List E) → List (ℕ × Option M) → List E
carried_log entries [] = []
carried_log entries ((k, Some x) ∷ slots) = entries x
carried_log entries ((k, None) ∷ slots) = []

module _ {M E : Type 0} (entries : M → List E) (number : E → ℕ) where
  -- the seat has taken the slot, and in it a machine with the setting, whose history begins with
  -- what the view was told and has of each of the view's numbers exactly its own entries
  abbrev pub Took : (M → List ℕ) → Me (Option M) (View E) → Me (Option M) (View E) → Type 0
  Took setting_of m m' = (x : M) × (m' ≡ (holding m.0 (entries x), (0, Some x) ∷ []))
      × (setting_of x ≡ m.0.setting) × BeginsWith (entries x) m.0.told
      × ((n : ℕ) (mine : List E) → Contains m.0.own (n, mine)
      → of_number number n (entries x) ≡ mine)

  -- a compare-exchange, which took the slot exactly where it found the word that it expected
  abbrev pub tried : (M → List ℕ) → Tells M E
  tried setting_of st m r m' = (r ≡ st.first → Took setting_of m m') × (r ≢ st.first → m' ≡ m)

  -- a swap, which gave the slot back
  abbrev pub gave_back : Tells M E
  gave_back st m r m' = m' ≡ (settled number m.0 (carried_log entries m.1), rest m.1)
