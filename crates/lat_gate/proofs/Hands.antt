-- What the tests of a seat tell.
use Rattle.std.proofs.Common.{◌≡◌, ℕ, zero, suc, ◌<◌, List, [], ◌∷◌, take, length, refl, arith, true, false, Option, Some, None}
use Rattle.lat_gate.specs.Rule.{Own, HasNumber}
use Rattle.lat_gate.specs.Steps.{held_log}
use Rattle.lat_gate.specs.Seats.{is_idle, has_empty_slot}
use Rattle.lat_gate.specs.declared.view.Hand.{Hand}
use Rattle.lat_gate.specs.declared.view.Hand.TheVariants.{Idle, Holds}
use Rattle.lat_gate.proofs.Holders.{contains_head}

module _ {M : Type 0} where
  -- a seat that holds as many slots as 0 has none
  pub no_slot : (slots : List (ℕ × Option M)) → length slots ≡ 0 → slots ≡ []
  no_slot [] e = refl
  no_slot (o ∷ slots) e = absurd (omega arith)

  -- a seat with the empty slot has no other
  pub empty_slot : (slots : List (ℕ × Option M)) → has_empty_slot slots ≡ true
      → slots ≡ (0, None) ∷ []
  empty_slot [] e = cc
  empty_slot ((zero, None) ∷ []) e = refl
  empty_slot ((zero, Some x) ∷ []) e = cc
  empty_slot ((suc k, o) ∷ []) e = cc
  empty_slot (o ∷ p ∷ slots) e = cc

module _ {E : Type 0} where
  -- an idle hand is `Idle`
  pub idle_hand : (hand : Hand E) → is_idle hand ≡ true → hand ≡ Idle
  idle_hand Idle e = refl
  idle_hand (Holds log) e = cc

  -- a hand that isn't holds its history
  pub held_hand : (hand : Hand E) → is_idle hand ≡ false → hand ≡ Holds (held_log hand)
  held_hand Idle e = cc
  held_hand (Holds log) e = refl

  -- a seat with one number has it
  pub one_number : (own : Own E) → length own ≡ 1
      → (n : ℕ) × ((mine : List E) × (own ≡ (n, mine) ∷ []))
  one_number [] e = absurd (omega arith)
  one_number (o ∷ []) e = (o.0, (o.1, refl))
  one_number (o ∷ q ∷ own) e = absurd (omega arith)

  -- a seat with numbers has some number
  pub some_number : (own : Own E) → 0 < length own → HasNumber own
  some_number [] h = absurd (omega arith)
  some_number (o ∷ own) h = (o.0, (o.1, contains_head o own))

  -- the first of some numbers is one number
  pub first_number : (own : Own E) → 0 < length own → length (take 1 own) ≡ 1
  first_number [] h = absurd (omega arith)
  first_number (o ∷ own) h = refl
